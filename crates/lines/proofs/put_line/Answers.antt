-- `lines::put_line` meets its contract: the line's parts one behind the other.
-- Assumes nothing.
use Rattle.std.proofs.Common.{ℕ, ap, [], ◌∷◌}
use Rattle.lines.specs.Text.{line}
use Rattle.text.proofs.Writes.{behind, same_written}
use Rattle.lines.proofs.put_line.Goals as goal

pub returns-clause-wrote : goal.returns-clause-wrote
unfolding line
returns-clause-wrote c =
    let letter = same_written (ap (λ (l : ℕ). l ∷ []) c.letter.ensures) c.put_byte.ensures in
    behind letter
    (behind c.put_field.ensures.wrote (behind c.put_field-2.ensures.wrote (behind c.put_field-3.ensures.wrote c.put_byte-2.ensures)))
