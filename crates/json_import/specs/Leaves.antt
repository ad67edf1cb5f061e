-- What the importer's functions over leaves promise, within 01's limits. Nothing here has to be believed: the public contract does not name it.
-- Assumes nothing.
use Rattle.std.specs.Prelude.{◌≡◌, Bool, List, [], ◌∷◌, ℕ, ◌+◌, ◌*◌, ◌≤◌, ◌<◌, length, drop, get_or, Result, Ok, Err}
use Rattle.numerals.specs.Inner.{Says}
use Rattle.numerals.specs.Value.{TooLarge}
use Rattle.grammar.specs.Tags.{NUMBER}
use Rattle.grammar.specs.Numbers.{DEPTH, LARGE}
use Rattle.grammar.specs.Trees.{Trees, count}
use Rattle.grammar.specs.Image.{image}
use Rattle.grammar.specs.Writing.{Wrote}
use Rattle.grammar.specs.Answer.{Verdict, refused}
use Rattle.json_import.specs.Values as values
use Rattle.json_import.specs.Json.{NOT_JSON}
use Rattle.json_import.specs.Machine.{Frame, State, after, digits, begun, signed, is_deep, run}
use Rattle.json_import.specs.declared.Place.{Place}
use Rattle.json_import.specs.declared.Fault.{Fault}
use Rattle.json_import.specs.declared.Fault.TheVariants.{NotJson, Deep, Large}

-- From a state at a place of the text the machine comes to another, or to its verdict, with 01's depth and whatever tells the numbers that are too large.
pub record Goes (s : List ℕ) (st : State) (at : ℕ) (to : State) (e : ℕ) : Type 0 where
  pub runs : (large : List ℕ → Bool) → ((w : List ℕ) → Says (large w) (TooLarge w)) → run is_deep large st at (drop at s) ≡ run is_deep large to e (drop e s)

pub record Comes (s : List ℕ) (st : State) (at : ℕ) (v : Verdict) : Type 0 where
  pub runs : (large : List ℕ → Bool) → ((w : List ℕ) → Says (large w) (TooLarge w)) → run is_deep large st at (drop at s) ≡ v

-- What a fault is told as.
abbrev pub verdict : Fault → Verdict
verdict (NotJson n) = refused NOT_JSON n n 0
verdict (Deep n) = refused DEPTH n n 0
verdict (Large a e) = refused LARGE a e 0

-- What a place and the image's length keep to each other: no byte of a text makes more than twenty of the image.
abbrev pub Ready : List ℕ → ℕ → ℕ → Type 0
Ready s at w = (at ≤ length s) × (length s ≤ 65000) × (w ≤ 20 * at)

-- A leaf within whatever open values fit: its record is written, or the machine's verdict is the fault's.
pub data LeafTo (s out : List ℕ) (Fits : List Frame → Type 0) (st : List Frame → State) (at w : ℕ) : Result Place Fault → List ℕ → Type 0 where
  leaf : {p : Place} {out₁ : List ℕ} (t : Trees) → count t ≡ 1 → at ≤ p.at → p.at ≤ length s → p.written ≤ 20 * p.at
      → ((fs : List Frame) → Fits fs → Goes s (st fs) at (after t fs) p.at) → Wrote out w (image t) p.written out₁ → LeafTo s out Fits st at w (Ok p) out₁
  broken : {f : Fault} {out₁ : List ℕ} → ((fs : List Frame) → Fits fs → Comes s (st fs) at (verdict f)) → LeafTo s out Fits st at w (Err f) out₁

abbrev pub Any : List Frame → Type 0
Any fs = Unit {0}

-- A number from its first digit on, with a minus before it or without.
pub data NumeralTo (s out : List ℕ) (at w : ℕ) : Result Place Fault → List ℕ → Type 0 where
  numeral : {p : Place} {out₁ : List ℕ} (v : List ℕ) → at + length v ≡ p.at → at < p.at → p.at ≤ length s
      → ((neg : Bool) (fs : List Frame) → Goes s (digits (begun (get_or s at 0)) neg at (get_or s at 0 ∷ []) fs) (at + 1) (after (signed neg v) fs) p.at)
      → Wrote out w (image (values.leaf NUMBER v)) p.written out₁ → NumeralTo s out at w (Ok p) out₁
  broken : {f : Fault} {out₁ : List ℕ}
      → ((neg : Bool) (fs : List Frame) → Comes s (digits (begun (get_or s at 0)) neg at (get_or s at 0 ∷ []) fs) (at + 1) (verdict f)) → NumeralTo s out at w (Err f) out₁
