-- Which nets leave the channel by its ends (document 02, T-03).
-- Assumes nothing.
use Rattle.std.specs.Prelude.{ℕ, Bool, true, false, cond, leb}
use Rattle.kind.specs.declared.Kind.{Kind}
use Rattle.kind.specs.declared.Kind.TheVariants.{Plain, Left, Right, BothEnds}

-- "Numbers 60,001 to 62,000 leave at the left, 62,001 to 64,000 at the right, and 64,001 to 65,535 at both ends; 1 to 60,000 are plain"
unfoldable pub kind_of : ℕ → Kind
kind_of n = cond (leb n 60000) Plain (cond (leb n 62000) Left (cond (leb n 64000) Right BothEnds))

-- a net of this kind leaves at the left; at the right
abbrev pub leaves_left : Kind → Bool
leaves_left Plain = false
leaves_left Left = true
leaves_left Right = false
leaves_left BothEnds = true

abbrev pub leaves_right : Kind → Bool
leaves_right Plain = false
leaves_right Left = false
leaves_right Right = true
leaves_right BothEnds = true

-- where a scan of a net's pins for its leftmost starts, and one for its rightmost: at an end by which the net leaves, past every column
-- from 1 to 254 already; else on the other side of them all, so that the first pin moves it
abbrev pub left_start : Kind → ℕ
left_start k = cond (leaves_left k) 0 255

abbrev pub right_start : Kind → ℕ
right_start k = cond (leaves_right k) 255 0
