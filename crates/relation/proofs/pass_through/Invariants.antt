-- `relation::pass_through` meets its contract. The loop's invariant: the words passed have what they hold now, the others what they held.
-- Assumes nothing.
use Rattle.std.proofs.Common.{ℕ, ◌≤◌, ◌<◌, ◌≡◌, ◌&&◌, ◌||◌, get_or}
use Rattle.bits.specs.Bits.{bit_of}
use Rattle.relation.specs.Relation.{leads_in}
use Rattle.relation.proofs.pass_through.Given as goal

abbrev pub invariant-loop-word : goal.invariant-loop-word
invariant-loop-word l =
    ((a b : ℕ) → b < l.word-index
    → leads_in l.word-items a b ≡ (leads_in l.initial.word-items a b || (bit_of l.through a && leads_in l.initial.word-items l.k b)))
    × ((b : ℕ) → l.word-index ≤ b → get_or l.word-items b 0 ≡ get_or l.initial.word-items b 0)
