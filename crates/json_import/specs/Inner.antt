-- What the importer's inner functions promise each other. Nothing here has to be believed: the public contract does not name it.
-- Assumes nothing.
use Rattle.std.specs.Prelude.{◌≡◌, Bool, true, false, List, [], ◌∷◌, ◌++◌, ℕ, ◌+◌, ◌≤◌, ◌<◌, length, drop, get_or, Option, Some, None, Result, Ok, Err, MatchResult}
use Rattle.strings.specs.Utf8.{utf8}
use Rattle.grammar.specs.Tags.{STRING}
use Rattle.grammar.specs.Trees.{text, Trees}
use Rattle.grammar.specs.Image.{entry}
use Rattle.grammar.specs.Writing.{Wrote}
use Rattle.grammar.specs.Answer.{refused}
use Rattle.json_import.specs.Tokens.{◌▹◌, is_blank, Ws}
use Rattle.json_import.specs.Json.{NOT_JSON}
use Rattle.json_import.specs.Machine.{Frame, Use, Shape, zero, int, point, frac, mark, sign, exp, over, Escape, State, after, digits, chars, escape, begun, whole, walk, Stopped, hex, closed, spelling, run}
use Rattle.json_import.specs.declared.scan.Shape.{Shape as Coded}
use Rattle.json_import.specs.declared.scan.Shape.TheVariants.{Zero, Int, Point, Frac, Mark, Sign, Exp}
use Rattle.json_import.specs.declared.text.Escaped.{Escaped}
use Rattle.json_import.specs.declared.Place.{Place}
use Rattle.json_import.specs.declared.Fault.{Fault}
use Rattle.json_import.specs.declared.Fault.TheVariants.{NotJson}

-- ── Where the machine comes to, whatever the limits ───────────────────────────────────────────────

-- From a state at a place of the text to another.
pub record Leads (s : List ℕ) (st : State) (at : ℕ) (to : State) (e : ℕ) : Type 0 where
  pub runs : (deep : ℕ → Bool) (large : List ℕ → Bool) → run deep large st at (drop at s) ≡ run deep large to e (drop e s)

-- To the byte at which no text goes on.
pub record Sticks (s : List ℕ) (st : State) (at n : ℕ) : Type 0 where
  pub runs : (deep : ℕ → Bool) (large : List ℕ → Bool) → run deep large st at (drop at s) ≡ refused NOT_JSON n n 0

-- ── White space, words and numbers ────────────────────────────────────────────────────────────────

-- White space reaches from a place to another, where none stands.
pub record Blanks (s : List ℕ) (from r : ℕ) : Type 0 where
  pub on : from ≤ r
  pub within : r ≤ length s
  pub ws : Ws (from ▹ drop from s) (r ▹ drop r s)
  pub unblank : is_blank (get_or s r 0) ≡ false

-- The letters of a word stand from a place on, or the first that is another.
pub data WordTo (s letters : List ℕ) (at : ℕ) : Result ℕ Fault → Type 0 where
  spelt : {e : ℕ} → e ≡ at + length letters → e ≤ length s → ((t : Trees) (fs : List Frame) → Leads s (spelling letters t fs) at (after t fs) e) → WordTo s letters at (Ok e)
  other : {n : ℕ} → ((t : Trees) (fs : List Frame) → Sticks s (spelling letters t fs) at n) → WordTo s letters at (Err (NotJson n))

-- A shape as the code has it, and one that a byte may lead to.
abbrev pub shape : Coded → Shape
shape Zero = zero
shape Int = int
shape Point = point
shape Frac = frac
shape Mark = mark
shape Sign = sign
shape Exp = exp

abbrev pub reached : Option Coded → Shape
reached (Some sh) = shape sh
reached None = over

-- A literal's end where its shape is whole; the byte at which no number goes on where it is not.
pub data ScannedTo (sh : Shape) (at : ℕ) : Result ℕ Fault → Type 0 where
  at_end : whole sh ≡ true → ScannedTo sh at (Ok at)
  cut_off : whole sh ≡ false → ScannedTo sh at (Err (NotJson at))

-- From a number's first digit on: its literal is whole, or the machine sticks.
pub data NumberTo (s : List ℕ) (at : ℕ) : Result ℕ Fault → Type 0 where
  literal : {e : ℕ} (v : List ℕ) → drop (at + 1) s ≡ v ++ drop e s → e ≡ at + 1 + length v → e ≤ length s → whole (walk (begun (get_or s at 0)) v) ≡ true
      → Stopped (walk (begun (get_or s at 0)) v) (drop e s) → NumberTo s at (Ok e)
  broken : {n : ℕ} → ((deep : ℕ → Bool) (large : List ℕ → Bool) (neg : Bool) (a : ℕ) (w : List ℕ) (fs : List Frame)
      → run deep large (digits (begun (get_or s at 0)) neg a w fs) (at + 1) (drop (at + 1) s) ≡ refused NOT_JSON n n 0) → NumberTo s at (Err (NotJson n))

-- ── Strings ───────────────────────────────────────────────────────────────────────────────────────

-- The value of the hex digit at a place; or none stands there.
abbrev pub DigitTo : List ℕ → ℕ → Result ℕ Fault → Type 0
DigitTo s at r = MatchResult r (λ d. (d ≡ hex (get_or s at 0)) × (d ≤ 15)) (λ f. (hex (get_or s at 0) ≡ 16) × (f ≡ NotJson at))

-- From an escape of which k bytes are read: its code point, which is no longer than its bytes, and the place behind it; or the byte at which none goes on.
pub data EscapeTo (s : List ℕ) (x : Escape) (k at : ℕ) : Result Escaped Fault → Type 0 where
  code : {e : Escaped} → at < e.end → e.end ≤ length s → e.code < 0x110000 → at + length (utf8 e.code) ≤ k + e.end
      → ((w : List ℕ) (us : Use) (fs : List Frame) → Leads s (escape x w us fs) at (chars (w ++ utf8 e.code) us fs) e.end) → EscapeTo s x k at (Ok e)
  stops : {n : ℕ} → ((w : List ℕ) (us : Use) (fs : List Frame) → Sticks s (escape x w us fs) at n) → EscapeTo s x k at (Err (NotJson n))

-- Behind the first quote at a place: the string is closed and its record written; or the byte at which no string goes on.
pub data StringTo (s out : List ℕ) (at w : ℕ) : Result Place Fault → List ℕ → Type 0 where
  string : {p : Place} {out₁ : List ℕ} (t : List ℕ) → p.at ≤ length s → at + 2 + length t ≤ p.at
      → ((us : Use) (fs : List Frame) → Leads s (chars [] us fs) (at + 1) (closed t us p.at fs) p.at) → Wrote out w (entry STRING (text t ∷ [])) p.written out₁
      → StringTo s out at w (Ok p) out₁
  cut : {n : ℕ} {out₁ : List ℕ} → ((us : Use) (fs : List Frame) → Sticks s (chars [] us fs) (at + 1) n) → StringTo s out at w (Err (NotJson n)) out₁
