-- Laws of lists: what stands at a place, and whether a test holds of one of a list.
-- Assumes nothing.
use Rattle.std.proofs.Common.{◌≡◌, ℕ, zero, suc, ◌+◌, ◌<◌, Bool, true, false, ◌||◌, List, [], ◌∷◌, length, get_or, drop, fold, replicate, refl, ◌∙◌, add-one, drop-cons}
use Rattle.channel.specs.Density.{any}

-- the first of what is left of a list, and what stands behind it
pub drop-next : {A : Type 0} (xs : List A) (i : ℕ) (d : A) → i < length xs → drop i xs ≡ get_or xs i d ∷ drop (i + 1) xs
drop-next xs i d h = rw add-one (drop-cons xs i d h)

-- a list of zeros, at each place and behind the last
pub get_or-zeros : (n i : ℕ) → ◌≡◌ {A = ℕ} (get_or (replicate n 0) i 0) 0
get_or-zeros zero i = refl
get_or-zeros (suc n) zero = refl
get_or-zeros (suc n) (suc i) = get_or-zeros n i

-- whether a test holds of one of a list, asked of each in turn
pub any-fold : (f : ℕ → Bool) (b : Bool) (xs : List ℕ) → fold (λ (found : Bool) (x : ℕ). found || f x) b xs ≡ (b || any f xs)
any-fold f b [] = go b
  where
    go : (b : Bool) → b ≡ (b || false)
    go true = refl
    go false = refl
any-fold f b (x ∷ xs) = any-fold f (b || f x) xs ∙ go b (f x)
  where
    go : (b t : Bool) → ((b || t) || any f xs) ≡ (b || (t || any f xs))
    go true t = refl
    go false t = refl
