-- What the layers above may use of the sheet check: a sheet that reads is sound; the check leaves just the sheets that read, and what it
-- refuses does not read.
-- Assumes nothing.
pub use Rattle.soundness.proofs.Sounds.{read-sound, sound-read, refused-read, read_checked, read-refused}
