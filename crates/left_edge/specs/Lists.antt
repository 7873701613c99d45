-- What holds of each in a list, of each two and of each with those before it.
-- Assumes nothing.
use Rattle.std.specs.Prelude.{List, [], ◌∷◌}

-- a property of each in a list
abbrev pub Each : {A : Type 0} → (A → Type 0) → List A → Type 0
Each P [] = Unit {0}
Each P (x ∷ xs) = P x × Each P xs

-- a relation between each in a list and each after it
abbrev pub Pairwise : {A : Type 0} → (A → A → Type 0) → List A → Type 0
Pairwise R [] = Unit {0}
Pairwise R (x ∷ xs) = Each (R x) xs × Pairwise R xs

-- a relation between those before one in a list, the last first, and the one
abbrev pub EachAfter : {A : Type 0} → (List A → A → Type 0) → List A → List A → Type 0
EachAfter R before [] = Unit {0}
EachAfter R before (x ∷ xs) = R before x × EachAfter R (x ∷ before) xs
