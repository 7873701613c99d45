-- Numbers, records and trailers behind other bytes, and each read back from the bytes it was written to.
-- Assumes nothing.
use Rattle.std.proofs.Common.{◌≡◌, ℕ, zero, suc, ◌+◌, ◌*◌, ◌/◌, ◌%◌, ◌^◌, ◌<◌, List, [], ◌∷◌, ◌++◌, length, sym, refl, ap, ◌∙◌, ap₂, append-nil, add_assoc, div-lt_iff_lt-mul, pow-suc, arith, get_or-append-add}
use Rattle.std.proofs.Math.Nat.{mod-add-div, mul-div_right}
use Rattle.mark.specs.declared.Mark.{Mark}
use Rattle.channel.specs.Sheet.{Terminal}
use Rattle.little.specs.Little.{little}
use Rattle.trailer.specs.declared.Trailer.{Trailer}
use Rattle.trailer.specs.Trailer.{trailer_at}
use Rattle.format.specs.Format.{record_size, terminal_at, terminals_from}
use Rattle.format.specs.Parts.{terminals_in}
use Rattle.encode.specs.Encode.{bytes, record_bytes, section_bytes, trailer_bytes, EncodableTerminal, EncodableSide}
use Rattle.encode.proofs.Lengths.{length-section}

-- what stands behind other bytes
module _ (front b : List ℕ) where
  little-behind : (n i : ℕ) → little n (front ++ b) (length front + i) ≡ little n b i
  unfolding little
  little-behind zero i = refl
  little-behind (suc n) i =
      ap₂ (λ (x y : ℕ). x + 256 * y) (get_or-append-add front b i 0)
      (ap (little n (front ++ b)) (next i) ∙ little-behind n (suc i))
    where
      next : (i : ℕ) → suc (length front + i) ≡ length front + suc i
      next i = omega arith

  terminal_behind : (i : ℕ) → terminal_at (front ++ b) (length front + i) ≡ terminal_at b i
  unfolding terminal_at
  terminal_behind i =
      rw (
        little-behind 2 i,
        add_assoc (length front) i 2,
        get_or-append-add front b (i + 2) 0,
        add_assoc (length front) i 3,
        get_or-append-add front b (i + 3) 0,
        add_assoc (length front) i 4,
        little-behind 8 (i + 4),
      )

  terminals_behind_lem : (n i : ℕ) → terminals_from (front ++ b) (length front + i) n ≡ terminals_from b i n
  unfolding terminals_from
  terminals_behind_lem zero i = refl
  terminals_behind_lem (suc n) i =
      ap₂ (λ (t : Terminal) (ts : List Terminal). t ∷ ts) (terminal_behind i)
      (ap (λ (j : ℕ). terminals_from (front ++ b) j n) (add_assoc (length front) i record_size) ∙ terminals_behind_lem n (i + record_size))

  pub trailer_behind : (i : ℕ) → trailer_at (front ++ b) (length front + i) ≡ trailer_at b i
  trailer_behind i =
      rw (
        little-behind 2 i,
        add_assoc (length front) i 2,
        little-behind 2 (i + 2),
        add_assoc (length front) i 4,
        little-behind 2 (i + 4),
        add_assoc (length front) i 6,
        little-behind 2 (i + 6),
        add_assoc (length front) i 8,
        little-behind 2 (i + 8),
      )

-- a number of n bytes
little-bytes : (n v : ℕ) (b : List ℕ) → v < 256 ^ n → little n (bytes n v ++ b) 0 ≡ v
unfolding little
little-bytes zero v b h = sym (omega arith)
little-bytes (suc n) v b h =
    ap (λ (x : ℕ). v % 256 + 256 * x)
    (little-behind (v % 256 ∷ []) (bytes n (v / 256) ++ b) n 0 ∙ little-bytes n (v / 256) b (less n v h))
    ∙ mod-add-div v 256
  where
    less : (n v : ℕ) → v < 256 ^ suc n → v / 256 < 256 ^ n
    less n v h = (div-lt_iff_lt-mul {k = 256} (omega arith)).1 (rw (pow-suc 256 n) at h)

-- a record
terminal_record : (t : Terminal) (b : List ℕ) → EncodableTerminal t → terminal_at (record_bytes t ++ b) 0 ≡ t
unfolding terminal_at
terminal_record t b h = rw (net, allowed)
  where
    net : little 2 (record_bytes t ++ b) 0 ≡ t.net
    net = little-bytes 2 t.net (t.least ∷ t.greatest ∷ bytes 8 t.allowed ++ b) h.net

    allowed : little 8 (record_bytes t ++ b) 4 ≡ t.allowed
    allowed =
        little-behind (bytes 2 t.net ++ t.least ∷ t.greatest ∷ []) (bytes 8 t.allowed ++ b) 8 0
        ∙ little-bytes 8 t.allowed b h.allowed

-- the records of a side
section-from : (ts : List Terminal) (b : List ℕ) → EncodableSide ts → terminals_from (section_bytes ts ++ b) 0 (length ts) ≡ ts
unfolding terminals_from
section-from [] b h = refl
section-from (t ∷ ts) b h =
    ap₂ (λ (x : Terminal) (xs : List Terminal). x ∷ xs) (terminal_record t (section_bytes ts ++ b) h.0)
    (terminals_behind_lem (record_bytes t) (section_bytes ts ++ b) (length ts) 0 ∙ section-from ts b h.1)

-- the trailer
module _ (t : Trailer) (m : Mark) (at : t.top.at < 65536) (p : t.top.count < 65536) (below : t.bottom.at < 65536)
    (q : t.bottom.count < 65536) (l : t.columns < 65536) where
  pub trailer_read : trailer_at (trailer_bytes t m) 0 ≡ t
  unfolding little
  trailer_read =
      rw (
        little-bytes 2 t.top.at [] at,
        little-bytes 2 t.top.count [] p,
        little-bytes 2 t.bottom.at [] below,
        little-bytes 2 t.bottom.count [] q,
        little-bytes 2 t.columns [] l,
      )

pub section-read : (ts : List Terminal) → EncodableSide ts → terminals_in (section_bytes ts) ≡ ts
unfolding terminals_in
section-read ts h =
    ap₂ (λ (b : List ℕ) (n : ℕ). terminals_from b 0 n) (sym (append-nil (section_bytes ts)))
    (ap (λ (n : ℕ). n / record_size) (length-section ts) ∙ mul-div_right (length ts) (omega arith))
    ∙ section-from ts [] h
