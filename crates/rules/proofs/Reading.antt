-- Why the rules of a side, read terminal by terminal, are the side's, and leave every other word alone.
-- Assumes nothing.
use Rattle.std.proofs.Common.{ℕ, ◌≤◌, ◌<◌, ◌≡◌, ◌∙◌, ap, List, arith, Bool, true, false, refl, eqb, eqb-true, length-set, length, length-drop, get_or, drop, ◌+◌, ◌∷◌, sym}
use Rattle.std.proofs.lemmas.Bool.{eqb-false}
use Rattle.std.proofs.lemmas.List.{drop_more}
use Rattle.channel.specs.Sheet.{Terminal, no_terminal}
use Rattle.channel.specs.declared.Side.{Side}
use Rattle.channel.specs.declared.Side.TheVariants.{Top, Bottom}
use Rattle.arrays.specs.Rules.{pins, rule_words, side_number, range_at, allowed_at, put_rule}
use Rattle.arrays.proofs.Rules.{range-put, allowed-put, range-put-other, allowed-put-other}
use Rattle.bits.specs.Bits.{bit_of}
use Rattle.reach.specs.Reach.{terminal_number}
use Rattle.rules.specs.Sides.{SideRules, TerminalRule, SameRule, SideRead}

-- the rules of the first n terminals are in, and every other word is as it was
pub record RulesTo (side : ℕ) (ts : List Terminal) (n : ℕ) (old new : List ℕ) : Type 0 where
  pub kept : length new ≡ length old
  pub rules : (i : ℕ) → 1 ≤ i → i ≤ n → TerminalRule ts i (range_at new side i) (allowed_at new side i)
  pub others : (b i : ℕ) → 1 ≤ i → i ≤ pins → (b ≡ side → n < i) → SameRule b i old new

module _ (s : Side) (ts : List Terminal) (n : ℕ) {old new : List ℕ} (r : RulesTo (side_number s) ts n old new) where
  abbrev side : ℕ
  side = side_number s

  low : (s : Side) → side_number s ≤ 1
  low Top = omega arith
  low Bottom = omega arith

  -- one terminal more
  pub rules_more : (w a : ℕ) → n < pins → length (put_rule new side (n + 1) w a) ≡ rule_words → TerminalRule ts (n + 1) w a
      → RulesTo side ts (n + 1) old (put_rule new side (n + 1) w a)
  rules_more w a few size rule =
      record {
        kept = simp length-set r.kept;
        rules = λ i p l. by-test i p l (eqb i (n + 1)) refl;
        others =
            λ b i p l o.
            let (ranges, sets) = away b i p l (λ e. omega (arith, o e)) in
            let (range, set) = r.others b i p l (λ e. omega (arith, o e)) in
            (ranges ∙ range, sets ∙ set);
      }
    where
      before : length new ≡ rule_words
      before = simp length-set at size

      -- the words of another terminal
      away : (b i : ℕ) → 1 ≤ i → i ≤ pins → (b ≡ side → i ≡ n + 1 → ⊥) → SameRule b i new (put_rule new side (n + 1) w a)
      away b i p l o = (
        range-put-other new side (n + 1) w a (omega arith) (omega arith) b i p l o,
        allowed-put-other new side (n + 1) w a (omega arith) (omega arith) b i p l o,
      )

      by-test :
          (i : ℕ) → 1 ≤ i → i ≤ n + 1 → (t : Bool) → eqb i (n + 1) ≡ t
          → let later : List ℕ = put_rule new side (n + 1) w a in
          TerminalRule ts i (range_at later side i) (allowed_at later side i)
      by-test i p l true e =
          let same : i ≡ n + 1 = eqb-true i (n + 1) e in
          rw (
            same,
            range-put new side (n + 1) w a (omega arith) (omega arith) before (low s),
            allowed-put new side (n + 1) w a (omega arith) (omega arith) before (low s),
          )
          rule
      by-test i p l false e =
          let less : i < n + 1 = omega (arith, eqb-false i (n + 1) e) in
          let (range, set) = away side i p (omega arith) (λ s f. omega arith) in
          rw (range, set) (r.rules i p (omega arith))

  -- all terminals
  pub rules_all : n ≡ length ts → SideRead side ts old new
  rules_all all =
      record {
        kept = r.kept;
        rules =
            record {
              range = λ i e t p l h. (r.rules i p (omega arith)).range e t h;
              allowed = λ i x p l. (r.rules i p (omega arith)).allowed x;
            };
        others = λ b i p l o. r.others b i p l (λ e. omega (arith, o e));
      }

-- where the terminals behind the first n begin with one, that is the next place's, and the others are behind it
pub record NextTerminal (ts : List Terminal) (n : ℕ) (t : Terminal) (us : List Terminal) : Type 0 where
  pub there : n < length ts
  pub number : terminal_number ts (n + 1) ≡ t
  pub behind : drop (n + 1) ts ≡ us

pub next_terminal : (ts : List Terminal) (n : ℕ) (t : Terminal) (us : List Terminal) → drop n ts ≡ t ∷ us → NextTerminal ts n t us
next_terminal ts n t us e =
    let there : n < length ts = omega (arith, ap length e, length-drop n ts) in
    let same = sym (drop_more ts n no_terminal there) ∙ e in
    record {
      there = there;
      number = ap (λ (k : ℕ). get_or ts k no_terminal) (omega arith) ∙ ap (λ (l : List Terminal). get_or l 0 no_terminal) same;
      behind = ap (drop 1) same;
    }

-- where a side's words are the same, so are its rules
pub rules_same :
    (a : ℕ) (ts : List Terminal) (old new : List ℕ) → ((i : ℕ) → 1 ≤ i → i ≤ length ts → SameRule a i old new) → SideRules a ts old
    → SideRules a ts new
rules_same a ts old new same r =
    record {
      range = λ i e t p l h. ap (λ (w : ℕ). bit_of w e) (same i p l).0 ∙ r.range i e t p l h;
      allowed = λ i x p l. ap (λ (w : ℕ). bit_of w x) (same i p l).1 ∙ r.allowed i x p l;
    }

-- the rules of one side are kept where those of the other are read
pub rules_kept :
    (a b : ℕ) (ts us : List Terminal) (old new : List ℕ) → (a ≡ b → ⊥) → length ts ≤ pins → SideRules a ts old → SideRead b us old new
    → SideRules a ts new
rules_kept a b ts us old new apart few r later =
    rules_same a ts old new (λ i p l. later.others a i p (omega arith) (λ e. absurd (apart e))) r
