-- Laws of a side of a list: behind its last column 13 and 14 ask nothing more.
-- Assumes nothing.
use Rattle.std.proofs.Common.{◌≡◌, ℕ, true, List, [], ◌∷◌, length, pos, refl, arith}
use Rattle.channel.specs.Sheet.{Terminal}
use Rattle.list.specs.Answer.{side_allowed, later_amount}

pub allowed_end : (ts : List Terminal) (cs : List ℕ) → length cs ≡ 0 → side_allowed ts cs ≡ true
allowed_end [] cs h = refl
allowed_end (t ∷ ts) [] h = refl
allowed_end (t ∷ ts) (c ∷ cs) h = absurd (omega arith)

pub later_end : (ts : List Terminal) (before : ℕ) (cs : List ℕ) → length cs ≡ 0 → later_amount ts before cs ≡ pos 0
later_end [] before cs h = refl
later_end (t ∷ ts) before [] h = refl
later_end (t ∷ ts) before (c ∷ cs) h = absurd (omega arith)
