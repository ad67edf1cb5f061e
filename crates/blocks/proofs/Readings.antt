-- The walk over a block's lines: what has been read and stored at each turn, and what each way out of it shows.
-- Assumes nothing.
use mathlib.Core.Path.{◌≡◌, refl, sym, ◌∙◌, ap, subst, subst₂}
use mathlib.Core.Bool.{Bool, true, false}
use mathlib.Core.List.{List, [], ◌∷◌, ◌++◌, append_assoc, append_cancel_right}
use Prim.Native.Nat.{ℕ, suc, ◌+◌, ◌-◌, ◌≤◌, ◌<◌}
use native.Mathlib.Omega.{arith}
use native.Mathlib.Numerals.{add-one}
use lib.ListN.{length, get_or, take, drop, length-append, length-drop, drop_of_length-le}
use lib.Seq.{sets, slice, slice-cons, length-slice, length-take-le, take-suc, take_at, drop-append-le}
use Rattle.strings.proofs.Stores.{sets_append}
use Rattle.std.specs.Prelude.{Result}
use Rattle.blocks.specs.declared.BlockError.{BlockError}
use Rattle.blocks.specs.declared.Good.{Good}
use Rattle.blocks.specs.Blocks.{Run, LineFeed, Blank, InLine, Indent, first, Lines, Other, NoBars, Sought, Found, good, unexpected_end, missing_termination, Closing, closed, blank, failing, Last, another, cut, Body, indented, joined, text}
use Rattle.blocks.specs.Inside.{Spans, feeds, last_end, good_at, ClosedAt, BodyAt, a_good, a_missing_termination}
use Rattle.strings.proofs.Stores.{drop-next}
use Rattle.blocks.proofs.Runs.{run_stops, line_feed}
use Rattle.blocks.proofs.Places.{slice-drop, slice_split, feeds-next, feeds_cons, spanned_feeds}
use Rattle.blocks.proofs.Texts.{ended, empties, ended_append, joined_ended, joined_after, lines_join, empty_lines, ended_empties, paragraph, paragraph_ended, text-plain}

snoc_left : (t u : List ℕ) (x y : ℕ) → t ++ x ∷ [] ≡ u ++ y ∷ [] → t ≡ u
snoc_left t u x y e =
    let same : length u ≡ length t = omega (arith, ap length e, length-append t (x ∷ []), length-append u (y ∷ [])) in
    sym (take_at t (x ∷ []) (length t) refl) ∙ ap (take (length t)) e ∙ take_at u (y ∷ []) (length t) same

-- the part up to one place less
slice-before : (s : List ℕ) (a e : ℕ) → a < e → e ≤ length s → slice a e s ≡ slice a (e - 1) s ++ get_or s (e - 1) 0 ∷ []
slice-before s a e h g =
    let k : ℕ = e - 1 in
    let next : e ≡ suc k = omega arith in
    ap (λ (x : ℕ). slice a x s) next ∙ ap (drop a) (take-suc s k 0 (omega arith))
    ∙ drop-append-le a (take k s) (get_or s k 0 ∷ []) (omega (arith, length-take-le k s (omega arith)))

last_end_le : (dash : Bool) (e : ℕ) → last_end dash e ≤ e
last_end_le true e = omega arith
last_end_le false e = omega arith

-- The LF that ends a line and those of the empty lines after it are LFs, and so are all of them but the last.
module _ {s : List ℕ} {a lf e : ℕ} (line : Spans InLine s a lf) (h : lf < length s) (empty : Spans LineFeed s (lf + 1) e) where
  all_feeds : slice lf e s ≡ feeds (e - lf)
  all_feeds =
      let n : e - lf ≡ suc (e - (lf + 1)) = omega (arith, empty.on) in
      slice-cons lf e s 0 (omega (arith, empty.on)) empty.within
      ∙ feeds_cons (e - (lf + 1)) (line_feed line h)
      (ap (λ (k : ℕ). slice k e s) (sym (add-one lf)) ∙ spanned_feeds empty)
      ∙ ap feeds (sym n)

  last_feeds : (dash : Bool) → slice lf (last_end dash e) s ≡ feeds (last_end dash e - lf)
  last_feeds false = all_feeds
  last_feeds true =
      let n : e - lf ≡ e - 1 - lf + 1 = omega (arith, empty.on) in
      snoc_left _ _ (get_or s (e - 1) 0) 0x0A
      (sym (slice-before s lf e (omega (arith, empty.on)) empty.within) ∙ all_feeds ∙ ap feeds n ∙ sym (feeds-next (e - 1 - lf)))

  last_after : (dash : Bool) → lf ≤ last_end dash e
  last_after true = omega (arith, empty.on)
  last_after false = omega (arith, empty.on)

  -- A line stored as it is passed, and its LFs stored behind it, are stored as they stand.
  pub stored_as :
      (out : List ℕ) (w : ℕ) {out₁ : List ℕ} (dash : Bool) → out₁ ≡ sets out w (slice a lf s) →
      sets out₁ (w + (lf - a)) (feeds (last_end dash e - lf)) ≡ sets out w (slice a (last_end dash e) s)
  stored_as out w dash o =
      let end = last_end dash e in
      ap (λ (x : List ℕ). sets x (w + (lf - a)) (feeds (end - lf))) o
      ∙ ap (sets (sets out w (slice a lf s)) (w + (lf - a))) (sym (last_feeds dash))
      ∙ sets_append out w (w + (lf - a)) (slice a lf s) (slice lf end s) (ap (λ (k : ℕ). w + k) (sym (length-slice a lf s line.within)))
      ∙ ap (sets out w) (slice_split s a lf end line.on (last_after dash) (omega (arith, last_end_le dash e, empty.within)))

  pub counted_as : (w : ℕ) (dash : Bool) → w + (lf - a) + (last_end dash e - lf) ≡ w + (last_end dash e - a)
  counted_as w dash = omega (arith, line.on, last_after dash)

-- A content line and the empty lines after it stand from place a, after the indent, up to place e.
pub record Para (s indent : List ℕ) (a e : ℕ) : Type 0 where
  pub line : List ℕ
  pub more : List (List ℕ)
  pub read : Lines indent (indent ++ drop a s) (line ∷ more) (drop e s)
  pub bytes : ended (line ∷ more) ≡ slice a e s

pub para : {s : List ℕ} {a lf e : ℕ} (indent : List ℕ) → Spans InLine s a lf → lf < length s → Spans LineFeed s (lf + 1) e → Para s indent a e
para {s} {a} {lf} {e} indent line h empty =
    let l = slice a lf s in
    let es = slice (lf + 1) e s in
    let feed : drop lf s ≡ 0x0A ∷ drop (lf + 1) s = drop-next s lf h ∙ ap (λ (b : ℕ). b ∷ drop (lf + 1) s) (line_feed line h) in
    let whole : (l ++ 0x0A ∷ es) ++ drop e s ≡ slice a e s ++ drop e s =
    append_assoc l (0x0A ∷ es) (drop e s)
    ∙ ap (λ (t : List ℕ). l ++ 0x0A ∷ t) (slice-drop s (lf + 1) e empty.on empty.within)
    ∙ ap (λ (t : List ℕ). l ++ t) (sym feed) ∙ slice-drop s a lf line.on line.within
    ∙ sym (slice-drop s a e (omega (arith, line.on, empty.on)) empty.within) in
    record {
      line = l;
      more = empties es;
      read = paragraph refl (subst (λ (t : List ℕ). Run InLine (drop a s) l t) feed line.run) empty.run;
      bytes = paragraph_ended l empty.run ∙ append_cancel_right (l ++ 0x0A ∷ es) (slice a e s) (drop e s) whole;
    }

-- the whole text is what was stored before, and the last part: without `-` all of it, with `-` less its last LF
last_part :
    {s indent : List ℕ} {a e : ℕ} (p : Para s indent a e) → a < e → e ≤ length s → (dash : Bool) (ls : List (List ℕ)) →
    text dash (ls ++ p.line ∷ p.more) ≡ ended ls ++ slice a (last_end dash e) s
unfolding text
last_part {s} {a = a} {e = e} p before within true ls =
    let all : joined (p.line ∷ p.more) ++ 0x0A ∷ [] ≡ slice a (e - 1) s ++ get_or s (e - 1) 0 ∷ [] =
    joined_ended p.line p.more ∙ p.bytes ∙ slice-before s a e before within in
    joined_after ls p.line p.more ∙ ap (λ (t : List ℕ). ended ls ++ t) (snoc_left _ _ _ _ all)
last_part p before within false ls =
    text-plain ls p.line p.more ∙ ended_append ls (p.line ∷ p.more) ∙ ap (λ (t : List ℕ). ended ls ++ t) p.bytes

-- What the loop over content lines keeps: the lines from the first that is not empty on are read up to a content line, which starts
-- after the indent at place a, and are stored with their LFs.
pub record Reading (s : List ℕ) (head content : ℕ) (out₀ : List ℕ) (w₀ : ℕ) (out : List ℕ) (w a : ℕ) : Type 0 where
  pub lines : List (List ℕ)
  pub read : Lines (slice head content s) (drop head s) lines (slice head content s ++ drop a s)
  pub within : a ≤ length s
  pub room : w ≤ a
  pub count : w ≡ w₀ + length (ended lines)
  pub stored : out ≡ sets out₀ w₀ (ended lines)

module _ {s : List ℕ} {head content : ℕ} where
  pub reading_start : {w₀ : ℕ} (out₀ : List ℕ) → Spans Blank s head content → w₀ ≤ content → Reading s head content out₀ w₀ out₀ w₀ content
  reading_start out₀ b h = record {
    lines = [];
    read = subst (λ (t : List ℕ). Lines (slice head content s) (drop head s) [] t) (sym (slice-drop s head content b.on b.within)) Lines.none;
    within = b.within;
    room = h;
    count = omega arith;
    stored = refl;
  }

  module _ {out₀ : List ℕ} {w₀ : ℕ} {out : List ℕ} {w a : ℕ} (d : Reading s head content out₀ w₀ out w a) where
    pub reading_more :
        {e a₁ : ℕ} {out₁ : List ℕ} {w₁ : ℕ} → Para s (slice head content s) a e → a ≤ e → e ≤ a₁ → a₁ ≤ length s →
        drop e s ≡ slice head content s ++ drop a₁ s → out₁ ≡ sets out w (slice a e s) → w₁ ≡ w + (e - a) →
        Reading s head content out₀ w₀ out₁ w₁ a₁
    reading_more {e} {a₁} {out₁} {w₁} p h g k q o n =
        let ls = p.line ∷ p.more in
        let grown : ended (d.lines ++ ls) ≡ ended d.lines ++ slice a e s =
        ended_append d.lines ls ∙ ap (λ (t : List ℕ). ended d.lines ++ t) p.bytes in
        record {
          lines = d.lines ++ ls;
          read =
              subst (λ (t : List ℕ). Lines (slice head content s) (drop head s) (d.lines ++ ls) t) q (lines_join d.read p.read);
          within = k;
          room = omega (arith, d.room, n);
          count =
              omega
              (arith, n, d.count, ap length grown, length-append (ended d.lines) (slice a e s), length-slice a e s (omega arith));
          stored =
              o ∙ ap (λ (x : List ℕ). sets x w (slice a e s)) d.stored
              ∙ sets_append out₀ w₀ w (ended d.lines) (slice a e s) d.count ∙ ap (sets out₀ w₀) (sym grown);
        }

-- The line after the lines is neither empty nor content.
pub other_line :
    {s : List ℕ} {i e : ℕ} {indent : List ℕ} → Spans LineFeed s i e → ((r : List ℕ) → drop e s ≡ indent ++ r → ⊥) → Other indent (drop e s)
other_line {s} {i} {e} d h = record {
  not_empty = λ r g. run_stops (subst (λ (t : List ℕ). Run LineFeed (drop i s) (slice i e s) t) g d.run) refl;
  not_content = h;
}

-- an indent that is not empty, under another name
by_name :
    {indent s line t r i : List ℕ} {b : ℕ} {ls : List (List ℕ)} {f : Found} → indent ≡ b ∷ i → Indent s line indent → Lines indent s ls t →
    Last indent ls t f r → Body s f r
by_name {s = s} {line} {t} {r} {ls = ls} {f = f} e d l k =
    indented (subst (λ (x : List ℕ). Indent s line x) e d) (subst (λ (x : List ℕ). Lines x s ls t) e l) (subst (λ (x : List ℕ). Last x ls t f r) e k)

module _ {s : List ℕ} {body head content : ℕ} (empty : Spans LineFeed s body head) (indent : Spans Blank s head content) (some : head < content) where
  -- all lines from the header line's end on, and the line after them
  whole :
      {ls : List (List ℕ)} {t r : List ℕ} {f : Found} → Lines (slice head content s) (drop head s) ls t →
      Last (slice head content s) (empties (slice body head s) ++ ls) t f r → Body (drop body s) f r
  whole l k =
      by_name (slice-cons head content s 0 some indent.within) (first empty.run indent.run) (lines_join (empty_lines empty.run) l) k

  module _ {out₀ : List ℕ} {w₀ : ℕ} {out : List ℕ} {w a : ℕ} (d : Reading s head content out₀ w₀ out w a) where
    -- a content line without LF
    pub cut_body : {lf : ℕ} → Spans InLine s a lf → length s ≤ lf → Body (drop body s) unexpected_end []
    cut_body {lf} line h =
        whole d.read
        (cut refl (subst (λ (t : List ℕ). Run InLine (drop a s) (slice a lf s) t) (drop_of_length-le s {i = lf} h) line.run))

    module _ {e i : ℕ} (p : Para s (slice head content s) a e) (o : Other (slice head content s) (drop e s)) (b : Spans Blank s e i) where
      another_body :
          {f : Found} {r : List ℕ} → Closing (empties (slice body head s) ++ (d.lines ++ p.line ∷ p.more)) (drop i s) f r → Body (drop body s) f r
      another_body k = whole (lines_join d.read p.read) (another o b.run k)

      -- a later line of blanks alone
      pub blank_body : length s ≤ i → Body (drop body s) unexpected_end []
      blank_body h =
          let all = empties (slice body head s) ++ (d.lines ++ p.line ∷ p.more) in
          another_body (subst (λ (t : List ℕ). Closing all t unexpected_end []) (sym (drop_of_length-le s {i = i} h)) blank)

      -- a later line that closes the block, and one that fails to
      pub close_body :
          {lf : ℕ} {dash : Bool} {x : Result Good BlockError} {out₁ out₂ : List ℕ} (entry : List ℕ) → Spans InLine s a lf → lf < length s → Spans LineFeed s (lf + 1) e →
          out₁ ≡ sets out w (slice a lf s) → out₀ ≡ sets entry 0 (slice body head s) → w₀ ≡ head - body →
          i < length s → ClosedAt s i lf e dash out₁ (w + (lf - a)) x out₂ → BodyAt s body dash entry x out₂
      close_body {dash = dash} entry line fed after o begun place h (ClosedAt.closed k q) =
          let before : a < e = omega (arith, line.on, after.on) in
          let es = slice body head s in
          let ls = p.line ∷ p.more in
          let all = empties es ++ (d.lines ++ ls) in
          let end = last_end dash e in
          let part = slice a end s in
          let short : end ≤ length s = omega (arith, last_end_le dash e, b.on, b.within) in
          let head-long : length es ≡ head - body = length-slice body head s empty.within in
          let meant : text dash all ≡ (es ++ ended d.lines) ++ part =
          ap (text dash) (sym (append_assoc (empties es) d.lines ls))
          ∙ last_part p before (omega (arith, b.on, b.within)) dash (empties es ++ d.lines)
          ∙ ap (λ (t : List ℕ). t ++ part) (ended_append (empties es) d.lines ∙ ap (λ (t : List ℕ). t ++ ended d.lines) (ended_empties empty.run)) in
          let counted : length (text dash all) ≡ w + (end - a) =
          omega
          (arith, ap length meant, length-append (es ++ ended d.lines) part, length-append es (ended d.lines), length-slice a end s short, head-long, d.count, place) in
          let written : sets entry 0 (text dash all) ≡ sets out w part =
          ap (sets entry 0) meant
          ∙ sym (sets_append entry 0 w (es ++ ended d.lines) part (omega (arith, length-append es (ended d.lines), head-long, d.count, place)))
          ∙ ap (λ (o₁ : List ℕ). sets o₁ w part)
          (sym (sets_append entry 0 w₀ es (ended d.lines) (omega (arith, head-long, place)))
          ∙ ap (λ (o₁ : List ℕ). sets o₁ w₀ (ended d.lines)) (sym begun) ∙ sym d.stored) in
          let found : Body (drop body s) (good all) (drop (i + 3) s) =
          another_body (subst (λ (t : List ℕ). Closing all t (good all) (drop (i + 3) s)) (sym q) closed) in
          subst₂ (λ (n : ℕ) (o₁ : List ℕ). BodyAt s body dash entry (good_at (i + 3) n) o₁) (counted ∙ sym (counted_as line fed after w dash)) (written ∙ sym (stored_as line fed after out w dash o)) (a_good {j = i + 3} found (omega (arith, length-drop (i + 3) s)))
      close_body entry line fed after o begun place h (ClosedAt.failing {j = j} nb so) =
          let all = empties (slice body head s) ++ (d.lines ++ p.line ∷ p.more) in
          let found : Closing all (drop i s) missing_termination (drop j s) =
          subst (λ (t : List ℕ). Closing all t missing_termination (drop j s)) (sym (drop-next s i h))
          (failing (subst NoBars (drop-next s i h) nb) (subst (λ (t : List ℕ). Sought t (drop j s)) (drop-next s i h) so.sought)) in
          a_missing_termination {j = j} (another_body found) (omega (arith, so.within, length-drop j s))

-- What `close` leaves at `|||`, where the last LFs stand up to a place.
pub closed_by :
    {s : List ℕ} {i a e last : ℕ} {dash : Bool} {out : List ℕ} {w n : ℕ} {out₁ : List ℕ} → (i + 3 ≤ length s) × (drop i s ≡ 0x7C ∷ 0x7C ∷ 0x7C ∷ drop (i + 3) s) →
    last ≡ last_end dash e → n ≡ w + (last - a) → out₁ ≡ sets out w (feeds (last - a)) → ClosedAt s i a e dash out w (good_at (i + 3) n) out₁
closed_by {a = a} {out = out} {w = w} bars k c o = rw (c, o, k) (ClosedAt.closed bars.0 bars.1)
