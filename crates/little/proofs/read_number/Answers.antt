-- `little::read_number` meets its contract: the word has the n bytes, and zeros behind them.
-- Assumes nothing.
use Rattle.std.proofs.Common.{◌≡◌, ℕ, ◌+◌, ◌-◌, List, ◌++◌, take, drop, replicate, ap, ◌∙◌, arith}
use Rattle.little.specs.Little.{little}
use Rattle.little.proofs.Laws.{little-below}
use Rattle.little.proofs.Words.{little-word, pow-bytes}
use Rattle.little.proofs.read_number.Goals as goal

pub returns : goal.returns
unfolding little
returns c =
    let a = c.args in
    let bytes = c.copy_from_slice.new.self in
    let zeros : List ℕ = drop a.n (replicate {A = ℕ} 8 0) in
    let size : a.at + a.n - a.at ≡ a.n = omega arith in
    let copied : bytes ≡ take a.n (drop a.at a.s.now) = c.copy_from_slice.ensures.after ∙ ap (λ (k : ℕ). take k (drop a.at a.s.now)) size in
    let word : c.from_le_bytes.result ≡ little 8 (bytes ++ zeros) 0 = omega (arith, c.from_le_bytes.ensures) in
    let value = word ∙ ap (λ (bs : List ℕ). little 8 (bs ++ zeros) 0) copied ∙ little-word a.n a.at a.s.now c.requires.0 c.requires.1 in
    (value, rw (← pow-bytes a.n, value) (little-below a.s.now (λ i. (c.type_inv.s i).fits) a.n a.at))
