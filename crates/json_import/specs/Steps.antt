-- What the importer's functions over values promise, within 01's limits. Nothing here has to be believed: the public contract does not name it.
-- Assumes nothing.
use Rattle.std.specs.Prelude.{◌≡◌, false, List, [], ◌∷◌, ◌++◌, ℕ, ◌+◌, ◌*◌, ◌≤◌, ◌<◌, length, get_or, Result, Ok, Err}
use Rattle.grammar.specs.Tags.{STRING}
use Rattle.grammar.specs.Trees.{Trees, ◌⊕◌, count}
use Rattle.grammar.specs.Image.{image}
use Rattle.grammar.specs.Writing.{Wrote}
use Rattle.grammar.specs.Answer.{tree}
use Rattle.json_import.specs.Tokens.{is_blank}
use Rattle.json_import.specs.Values.{leaf, field}
use Rattle.json_import.specs.Machine.{Frame, arr, obj, State, want, name, colon, after}
use Rattle.json_import.specs.Leaves.{Goes, Comes, verdict}
use Rattle.json_import.specs.declared.Place.{Place}
use Rattle.json_import.specs.declared.Open.{Open}
use Rattle.json_import.specs.declared.Open.TheVariants.{Array, Object}
use Rattle.json_import.specs.declared.Fault.{Fault}
use Rattle.json_import.specs.declared.Step.{Step}
use Rattle.json_import.specs.declared.Step.TheVariants.{Whole, Within}

-- What the image has of an open value: the trees before, and the name of a field whose value is being read.
unfoldable pub row : Frame → List ℕ
row (arr ts) = image ts
row (obj ts w a e) = image ts ++ image (leaf STRING w)

-- An open value as the code has it; it has no more elements or fields than there are bytes before.
pub data Opened (at : ℕ) : Open → Frame → Type 0 where
  an_array : {n : ℕ} {ts : Trees} → n ≡ count ts → count ts ≤ at → Opened at (Array n) (arr ts)
  an_object : {n a e : ℕ} {ts : Trees} {w : List ℕ} → n ≡ count ts → count ts ≤ at → a ≤ 65000 → e ≤ 65000 → Opened at (Object n a e) (obj ts w a e)

-- Behind a name: its colon, and where its value begins.
pub data ColonTo (s : List ℕ) (at : ℕ) : Result ℕ Fault → Type 0 where
  colon_at : {e : ℕ} → at < e → e ≤ length s → is_blank (get_or s e 0) ≡ false
      → ((ts : Trees) (t : List ℕ) (a b : ℕ) (fs : List Frame) → Goes s (colon ts t a b fs) at (want (obj ts t a b ∷ fs)) e) → ColonTo s at (Ok e)
  broken : {f : Fault} → ((ts : Trees) (t : List ℕ) (a b : ℕ) (fs : List Frame) → Comes s (colon ts t a b fs) at (verdict f)) → ColonTo s at (Err f)

-- A field's name and its colon: the name's record is written, and its value is wanted within the field, with n fields before.
pub data NamedTo (s out : List ℕ) (at w n : ℕ) : Result Step Fault → List ℕ → Type 0 where
  named : {p : Place} {out₁ : List ℕ} (t : List ℕ) (b : ℕ) → at < p.at → p.at ≤ length s → is_blank (get_or s p.at 0) ≡ false → b ≤ p.at → p.written ≤ 20 * p.at
      → ((ts : Trees) (fs : List Frame) → Goes s (name ts fs) at (want (obj ts t at b ∷ fs)) p.at) → Wrote out w (image (leaf STRING t)) p.written out₁
      → NamedTo s out at w n (Ok (Within p (Object n at b))) out₁
  broken : {f : Fault} {out₁ : List ℕ} → ((ts : Trees) (fs : List Frame) → Comes s (name ts fs) at (verdict f)) → NamedTo s out at w n (Err f) out₁

-- A value within whatever open values fit: whole, with its image; or open, with what its frame has in the image; or the machine's verdict is the fault's.
pub data OpensTo (s out : List ℕ) (Fits : List Frame → Type 0) (st : List Frame → State) (at w : ℕ) : Result Step Fault → List ℕ → Type 0 where
  whole : {p : Place} {out₁ : List ℕ} (t : Trees) → count t ≡ 1 → at ≤ p.at → p.at ≤ length s → p.written ≤ 20 * p.at
      → ((fs : List Frame) → Fits fs → Goes s (st fs) at (after t fs) p.at) → Wrote out w (image t) p.written out₁ → OpensTo s out Fits st at w (Ok (Whole p)) out₁
  enter : {p : Place} {o : Open} {out₁ : List ℕ} (f : Frame) → at ≤ p.at → p.at ≤ length s → is_blank (get_or s p.at 0) ≡ false → p.written ≤ 20 * p.at → Opened p.at o f
      → ((fs : List Frame) → Fits fs → length fs < 200) → ((fs : List Frame) → Fits fs → Goes s (st fs) at (want (f ∷ fs)) p.at)
      → Wrote out w (row f) p.written out₁ → OpensTo s out Fits st at w (Ok (Within p o)) out₁
  broken : {f : Fault} {out₁ : List ℕ} → ((fs : List Frame) → Fits fs → Comes s (st fs) at (verdict f)) → OpensTo s out Fits st at w (Err f) out₁

-- How many values may be open where another begins.
abbrev pub Shallow : List Frame → Type 0
Shallow fs = length fs < 200

-- ── Behind a value that is whole ──────────────────────────────────────────────────────────────────

-- A value is whole within an open one, and the image has `before` of the open one. What comes next: another value is wanted in it, with what it has in
-- the image then; or it is whole, with its image; or the machine's verdict is the fault's.
pub data NextTo (s out : List ℕ) (st : List Frame → State) (before : List ℕ) (at w : ℕ) : Result Step Fault → List ℕ → Type 0 where
  again : {p : Place} {o : Open} {out₁ : List ℕ} (g : Frame) (bytes : List ℕ) → at < p.at → p.at ≤ length s → is_blank (get_or s p.at 0) ≡ false → p.written ≤ 20 * p.at
      → Opened p.at o g → ((fs : List Frame) → Goes s (st fs) at (want (g ∷ fs)) p.at) → before ++ bytes ≡ row g → Wrote out w bytes p.written out₁
      → NextTo s out st before at w (Ok (Within p o)) out₁
  closed : {p : Place} {out₁ : List ℕ} (u : Trees) (bytes : List ℕ) → count u ≡ 1 → at < p.at → p.at ≤ length s → p.written ≤ 20 * p.at
      → ((fs : List Frame) → Goes s (st fs) at (after u fs) p.at) → before ++ bytes ≡ image u → Wrote out w bytes p.written out₁ → NextTo s out st before at w (Ok (Whole p)) out₁
  broken : {f : Fault} {out₁ : List ℕ} → ((fs : List Frame) → Comes s (st fs) at (verdict f)) → NextTo s out st before at w (Err f) out₁

-- What the place behind a whole value, the image's length and the count of its open value's trees keep to each other. A field's record may be written at
-- this place already.
abbrev pub Behind : List ℕ → ℕ → ℕ → ℕ → Type 0
Behind s at w n = (at ≤ length s) × (length s ≤ 65000) × (w ≤ 20 * at + 13) × (n ≤ at + 1) × (is_blank (get_or s at 0) ≡ false)

-- An open value as the code has it is some open value.
pub record Standing (at : ℕ) (o : Open) : Type 0 where
  pub frame : Frame
  pub opened : Opened at o frame

-- Of an array that has n elements with this one, of an object that has n fields with this one, and of any open value.
pub record ArrayNext (s out : List ℕ) (at w n : ℕ) (r : Result Step Fault) (out₁ : List ℕ) : Type 0 where
  pub next : (ts t : Trees) → count (ts ⊕ t) ≡ n → NextTo s out (λ fs. after t (arr ts ∷ fs)) (image (ts ⊕ t)) at w r out₁

pub record ObjectNext (s out : List ℕ) (at w n : ℕ) (r : Result Step Fault) (out₁ : List ℕ) : Type 0 where
  pub next : (ts t : Trees) (v : List ℕ) (a e : ℕ) → count (ts ⊕ field v a e t) ≡ n
      → NextTo s out (λ fs. after t (obj ts v a e ∷ fs)) (image (ts ⊕ field v a e t)) at w r out₁

pub record OpenNext (s out : List ℕ) (at w : ℕ) (o : Open) (r : Result Step Fault) (out₁ : List ℕ) : Type 0 where
  pub next : (f : Frame) (t : Trees) → Opened at o f → count t ≡ 1 → NextTo s out (λ fs. after t (f ∷ fs)) (row f ++ image t) at w r out₁

-- ── The text ──────────────────────────────────────────────────────────────────────────────────────

-- Behind the text's value: white space up to the end, or something else.
pub data EndedTo (s : List ℕ) (at : ℕ) : Result (Unit {0}) Fault → Type 0 where
  whole_text : {u : Unit {0}} → ((t : Trees) → Comes s (after t []) at (tree t)) → EndedTo s at (Ok u)
  left_over : {f : Fault} → ((t : Trees) → Comes s (after t []) at (verdict f)) → EndedTo s at (Err f)

-- The text: its tree, with the image written; or the machine's verdict is the fault's.
pub data ParsedTo (s out : List ℕ) : Result ℕ Fault → List ℕ → Type 0 where
  parsed : {w : ℕ} {out₁ : List ℕ} (t : Trees) → Comes s (want []) 0 (tree t) → Wrote out 0 (image t) w out₁ → ParsedTo s out (Ok w) out₁
  broken : {f : Fault} {out₁ : List ℕ} → Comes s (want []) 0 (verdict f) → ParsedTo s out (Err f) out₁
