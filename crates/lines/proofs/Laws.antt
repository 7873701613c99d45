-- Laws of the lines: the next line of a side, and one list behind the other.
-- Assumes nothing.
use Rattle.std.proofs.Common.{◌≡◌, ℕ, ◌+◌, List, [], ◌∷◌, ◌++◌, length, sym, refl, ap, ◌∙◌, append_assoc, arith}
use Rattle.channel.specs.Sheet.{Terminal}
use Rattle.terminal.specs.Terminal.{terminal_of}
use Rattle.terminal.specs.declared.Record.{Record}
use Rattle.channel.specs.declared.Side.{Side}
use Rattle.cursor.specs.declared.Visit.{Visit}
use Rattle.cursor.specs.Visits.{visits}
use Rattle.lines.specs.Text.{line, lines}

-- the line of the first terminal that is left, then those of the others
pub next-line :
    {ts us : List Terminal} {cs ds : List ℕ} {n k m : ℕ} (side : Side) (r : Record) (c : ℕ) → ts ≡ terminal_of r ∷ us → cs ≡ c ∷ ds
    → k ≡ n → m ≡ n + 1
    → line (record { side = side; place = k + 1; terminal = r }) c ++ lines (visits side (m + 1) us) ds ≡ lines (visits side (n + 1) ts) cs
next-line side r c first column place next = rw (first, column, place, next)

-- no line is left once each column has one
pub lines-end : (vs : List Visit) (cs : List ℕ) → length cs ≡ 0 → lines vs cs ≡ []
lines-end [] cs h = refl
lines-end (v ∷ vs) [] h = refl
lines-end (v ∷ vs) (c ∷ cs) h = absurd (omega arith)

-- the lines of two lists one behind the other
pub lines-append :
    (vs us : List Visit) (cs ds : List ℕ) → length vs ≡ length cs → lines (vs ++ us) (cs ++ ds) ≡ lines vs cs ++ lines us ds
lines-append [] us [] ds h = refl
lines-append [] us (c ∷ cs) ds h = absurd (omega arith)
lines-append (v ∷ vs) us [] ds h = absurd (omega arith)
lines-append (v ∷ vs) us (c ∷ cs) ds h =
    ap (λ (rest : List ℕ). line v c ++ rest) (lines-append vs us cs ds (omega arith)) ∙ sym (append_assoc (line v c) _ _)
