-- What a pass says: the question to the last plane of a filled table.
-- Assumes nothing.
use Rattle.std.proofs.Common.{ℕ, suc, ◌+◌, ◌-◌, ◌≤◌, ◌<◌, ◌≡◌, ap₂, List, Bool, ◌&&◌, inl, arith, leb, ltb}
use Rattle.std.proofs.Math.Dec.{leb-zero}
use Rattle.channel.proofs.Below.{any_below_cong}
use Rattle.bits.specs.Bits.{bit_of, in_word}
use Rattle.bits.proofs.Laws.{word_cong, bit-full}
use Rattle.entry.specs.Entry.{cell}
use Rattle.table.specs.Planes.{Filled, held_at, meeting}
use Rattle.pass.specs.declared.plan.Plan.{Plan}
use Rattle.pass.specs.Pass.{feasible_in, table_end}
use Rattle.walk.specs.Walk.{ones}

-- the question to the last plane of a filled table is whether all pins can be placed
pub last_plane :
    (rules loads : List ℕ) (n : Plan) (bound : ℕ) (old new : List ℕ) (mask high : ℕ)
    → Filled rules loads bound n.grid (n.p + 1) 0 (table_end n) old new → n.q < n.grid.across → n.grid.rows ≤ 64
    → ((y : ℕ) → y < 64 → bit_of mask y ≡ ltb y (n.l + 1 - n.q)) → suc high ≡ n.grid.rows
    → meeting new n.grid n.p n.q 0 high 63 ones mask ≡ feasible_in rules loads n bound
unfolding meeting feasible_in
last_plane rules loads n bound old new mask high f hq hr m eh =
    rw (← eh)
    (any_below_cong (suc high)
    (λ (x : ℕ). leb 0 x && (bit_of ones (63 - x) && in_word (λ (y : ℕ). held_at new n.grid n.p n.q x y && bit_of mask y)))
    (λ (x : ℕ). in_word (λ (y : ℕ). cell rules loads bound n.p n.q x y && ltb y (n.l + 1 - n.q)))
    (λ x l.
    rw (leb-zero x, bit-full (63 - x) (omega arith))
    (word_cong _ _
    (λ y hy.
    ap₂ (λ (a b : Bool). a && b)
    (f.cells n.p n.q x y (inl (omega arith)) hq (omega (arith, eh)) hy)
    (m y hy)))))
