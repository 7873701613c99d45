-- `terminal::allows` meets its contract: column 0 and columns above 64 are in no set, and of the others the shifted set's last bit says it.
-- Assumes nothing.
use Rattle.std.proofs.Common.{refl, sym, inl, inr}
use Rattle.channel.proofs.Sets.{allows-below}
use Rattle.terminal.proofs.columns.allows.Goals as goal

pub returns-then-column-eq0 : goal.returns-then-column-eq0
returns-then-column-eq0 c =
    elim c.then-column-eq0.either [
      | inl zero ↦ rw zero refl
      | inr more ↦ sym (allows-below c.args.set 64 c.args.column c.ranges.set.fits more.1)
    ]
