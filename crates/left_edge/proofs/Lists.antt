-- Laws of what holds of each in a list, of each two, and of some.
-- Assumes nothing.
use Rattle.std.proofs.Common.{◌≡◌, Bool, true, false, ◌||◌, List, [], ◌∷◌, ◌++◌, map, refl, true≢false}
use Rattle.std.proofs.Math.Bool.{or-true}
use Rattle.channel.specs.Density.{any}
use Rattle.left_edge.specs.Lists.{Each, Pairwise}

pub each_map : {A : Type 0} (P Q : A → Type 0) (xs : List A) → ((x : A) → P x → Q x) → Each P xs → Each Q xs
each_map P Q [] f h = tt
each_map P Q (x ∷ xs) f h = (f x h.0, each_map P Q xs f h.1)

pub each_all : {A : Type 0} (P : A → Type 0) (xs : List A) → ((x : A) → P x) → Each P xs
each_all P [] f = tt
each_all P (x ∷ xs) f = (f x, each_all P xs f)

each_both : {A : Type 0} (P Q : A → Type 0) (xs : List A) → Each P xs → Each Q xs → Each (λ (x : A). P x × Q x) xs
each_both P Q [] h k = tt
each_both P Q (x ∷ xs) h k = ((h.0, k.0), each_both P Q xs h.1 k.1)

pub each_append : {A : Type 0} (P : A → Type 0) (xs ys : List A) → Each P xs → Each P ys → Each P (xs ++ ys)
each_append P [] ys h k = k
each_append P (x ∷ xs) ys h k = (h.0, each_append P xs ys h.1 k)

pub pairwise_map : {A : Type 0} (R S : A → A → Type 0) (xs : List A) → ((x y : A) → R x y → S x y) → Pairwise R xs → Pairwise S xs
pairwise_map R S [] f h = tt
pairwise_map R S (x ∷ xs) f h = (each_map (R x) (S x) xs (f x) h.0, pairwise_map R S xs f h.1)

-- a relation beside a property of each
pub pairwise_each : {A : Type 0} (P : A → Type 0) (R : A → A → Type 0) (xs : List A) → Each P xs → Pairwise R xs
    → Pairwise (λ (x y : A). P x × P y × R x y) xs
pairwise_each P R [] h k = tt
pairwise_each {A} P R (x ∷ xs) h k = (
  each_map (λ (y : A). P y × R x y) (λ (y : A). P x × P y × R x y) xs (λ y a. (h.0, a.0, a.1)) (each_both P (R x) xs h.1 k.0),
  pairwise_each P R xs h.1 k.1,
)

-- where each stands for another
pub each_image : {A B : Type 0} (f : A → B) (P : B → Type 0) (xs : List A) → Each (λ (x : A). P (f x)) xs → Each P (map f xs)
each_image f P [] h = tt
each_image f P (x ∷ xs) h = (h.0, each_image f P xs h.1)

pub pairwise_image : {A B : Type 0} (f : A → B) (R : B → B → Type 0) (xs : List A) → Pairwise (λ (x y : A). R (f x) (f y)) xs
    → Pairwise R (map f xs)
pairwise_image f R [] h = tt
pairwise_image f R (x ∷ xs) h = (each_image f (R (f x)) xs h.0, pairwise_image f R xs h.1)

-- a weaker test finds one where a stronger does
pub any_weaker : {A : Type 0} (f g : A → Bool) (xs : List A) → ((x : A) → f x ≡ true → g x ≡ true) → any f xs ≡ true → any g xs ≡ true
any_weaker f g [] w h = h
any_weaker f g (x ∷ xs) w h = go (f x) refl h (any_weaker f g xs w)
  where
    go : (b : Bool) → f x ≡ b → (b || any f xs) ≡ true → (any f xs ≡ true → any g xs ≡ true) → (g x || any g xs) ≡ true
    go true q h r = rw (w x q)
    go false q h r = rw (r h) (or-true (g x))

-- a test that finds none fails of each
pub any_none : {A : Type 0} (f : A → Bool) (xs : List A) → any f xs ≡ false → Each (λ (x : A). f x ≡ false) xs
any_none f [] h = tt
any_none {A} f (x ∷ xs) h = go (f x) refl h (any_none f xs)
  where
    go : (b : Bool) → f x ≡ b → (b || any f xs) ≡ false → (any f xs ≡ false → Each (λ (y : A). f y ≡ false) xs)
        → Each (λ (y : A). f y ≡ false) (x ∷ xs)
    go true q h r = absurd (true≢false h)
    go false q h r = (q, r h)
