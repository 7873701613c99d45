-- The numbers of each kind of net, as document 02 (T-03) has them.
-- Assumes nothing.
use Rattle.std.proofs.Common.{◌≡◌, ℕ, ◌≤◌, refl, arith, le-leb}
use Rattle.std.proofs.lemmas.Bool.{lt-leb}
use Rattle.kind.specs.declared.Kind.TheVariants.{Plain, Left, Right, BothEnds}
use Rattle.kind.specs.Kinds.{kind_of}

-- "1 to 60,000 are plain"
pub plain_range : (n : ℕ) → n ≤ 60000 → kind_of n ≡ Plain
unfolding kind_of
plain_range n h = rw (le-leb n 60000 h)

-- "60,001 to 62,000 leave at the left"
pub left-range : (n : ℕ) → 60001 ≤ n → n ≤ 62000 → kind_of n ≡ Left
unfolding kind_of
left-range n h k = rw (lt-leb n 60000 (omega arith), le-leb n 62000 k)

-- "62,001 to 64,000 at the right"
pub right_range : (n : ℕ) → 62001 ≤ n → n ≤ 64000 → kind_of n ≡ Right
unfolding kind_of
right_range n h k = rw (lt-leb n 60000 (omega arith), lt-leb n 62000 (omega arith), le-leb n 64000 k)

-- "and 64,001 to 65,535 at both ends"
pub both_ends_range : (n : ℕ) → 64001 ≤ n → kind_of n ≡ BothEnds
unfolding kind_of
both_ends_range n h = rw (lt-leb n 60000 (omega arith), lt-leb n 62000 (omega arith), lt-leb n 64000 (omega arith))

-- the first and last number of each
pub at_the_bounds :
    (kind_of 60000 ≡ Plain)
    × (kind_of 60001 ≡ Left)
    × (kind_of 62000 ≡ Left)
    × (kind_of 62001 ≡ Right)
    × (kind_of 64000 ≡ Right)
    × (kind_of 64001 ≡ BothEnds)
    × (kind_of 65535 ≡ BothEnds)
unfolding kind_of
at_the_bounds = (refl, refl, refl, refl, refl, refl, refl)
