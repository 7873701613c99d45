-- A text written into a buffer from a place on.
-- Assumes nothing.
use Rattle.std.specs.Prelude.{ℕ, ◌+◌, ◌≡◌, ◌≤◌, List, length}
use Rattle.std.proofs.lemmas.List.Edits.{sets}
use Rattle.text.specs.declared.Writer.{Writer}

-- the text is stored byte by byte from `at` to `end`, and the rest is as it was
pub record Wrote (old : List ℕ) (at : ℕ) (text new : List ℕ) (end : ℕ) : Type 0 where
  pub bytes : new ≡ sets old at text
  pub place : end ≡ at + length text

-- so many bytes more fit into the buffer
abbrev pub HasRoom : Writer → ℕ → Type 0
HasRoom w n = w.end + n ≤ length w.out.now

-- what is written behind, in the same buffer
pub record Writes (old new : Writer) (text : List ℕ) : Type 0 where
  pub wrote : Wrote old.out.now old.end text new.out.now new.end
  pub buffer : new.out.ghost_name ≡ old.out.ghost_name
  pub room : length new.out.now ≡ length old.out.now
