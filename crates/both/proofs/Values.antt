-- A JSON value is read as Jsonnet with the same tree, at the same depth, or has the escape `\/` and is refused with number 9: by induction over
-- the value, a lemma for each form of RFC 8259. Lexemes are found from the text's end on, and read from its start on.
-- Assumes nothing.
use mathlib.Core.Path.{◌≡◌, refl, subst}
use mathlib.Core.List.{List, [], ◌∷◌, ◌++◌}
use Prim.Native.Nat.{ℕ, zero, suc, ◌+◌, ◌<◌}
use native.Mathlib.Omega.{arith}
use lib.ListN.{length}
use Rattle.strings.specs.Utf8.{Utf8}
use Rattle.numerals.specs.Value.{TooLarge}
use Rattle.lexemes.specs.Kinds.{L_BRACK, R_BRACK, L_BRACE, R_BRACE, COLON, COMMA, MINUS}
use Rattle.alone.proofs.Alone.{Mark}
use Rattle.alone.proofs.StringAlone.{There, there_next, there_behind}
use Rattle.grammar.specs.Tags.{NULL, BOOL, NUMBER, STRING, ARRAY, MEMBERS}
use Rattle.grammar.specs.Numbers.{ESCAPE}
use Rattle.grammar.specs.Trees.{byte, number, Trees, none, tree, ◌⊕◌, count}
use Rattle.grammar.specs.Lexemes.{Said}
use Rattle.grammar.specs.Productions.{Phrase, goto, ◌▸◌, sub, deep, with_field, source}
use Rattle.grammar.specs.Productions as phrase
use Rattle.grammar.specs.Reading.{done, broken, ended, gone, eaten, deepened, undeepened}
use Rattle.grammar.specs.Answer as answers
use Rattle.grammar.proofs.ImageLaws.{row_assoc}
use Rattle.json_import.specs.Tokens.{At, ◌▹◌, Ws, closes, around, String, literal, Number}
use Rattle.json_import.specs.Values.{Part, done as whole, Reads, leaf, negative, array, object, field}
use Rattle.json_import.specs.Values as json
use Rattle.json_import.specs.Json.{Text, TooDeep}
use Rattle.json_import.specs.Json as texts
use Rattle.both.specs.Solidus.{outside, Solidus, SolidusAt}
use Rattle.both.proofs.Strings.{place, behind}
use Rattle.both.proofs.Numbers.{clearly, clear_on, clear_back, number_clear}
use Rattle.both.proofs.Lexed.{lx, Left, end_left, Before, mark_left, ws_there, ws_left, ws_on, ws_back, Follows, null_left, true_left, false_left, number_left}
use Rattle.both.proofs.Lexed.{StringLeft, string_there, string_left}
use Rattle.both.proofs.Phrases.{Lexemes, Rd, Shut, Basic, Starts, Met, same, nine, met_from, met_by, deep_then, sub_then, as_expr, null_read, true_read, false_read, number_read, string_read, minus_read}
use Rattle.both.proofs.Phrases.{no_elements, Tail, an_array, array_over, array_on, no_members, Named, an_object, members_over, members_on, member_read}

-- ── What follows a value ──────────────────────────────────────────────────────────────────────────

follows_blanks : {h g : At} → Ws h g → Follows (behind g) → Follows (behind h)
follows_blanks Ws.none f = f
follows_blanks (Ws.more b w) f = Follows.blank b

-- ── The claims ────────────────────────────────────────────────────────────────────────────────────

-- A value from h to g, before the lexemes ys: its lexemes, and what they are read as within k open values.
record Value (s : List ℕ) (k : ℕ) (h : At) (t : Trees) (g : At) (ys : Lexemes) : Type 0 where
  lexemes : Lexemes
  left : Left s h lexemes
  starts : Starts lexemes
  reads : (m d p : ℕ) → suc d + k ≡ 200 → Met s (goto (phrase.expr m)) none d p lexemes t (place g) ys (behind h) (behind g)

record ValueAt (s : List ℕ) (k : ℕ) (h : At) (t : Trees) (g : At) : Type 0 where
  shallow : k < 200
  there : There s (place g) (behind g)
  on : (ys : Lexemes) → Left s g ys → Follows (behind g) → Shut ys → Value s k h t g ys

-- The elements of an array from h on, up to g behind its `]`.
record Elements (s : List ℕ) (k : ℕ) (h : At) (us : Trees) (g : At) (ys : Lexemes) : Type 0 where
  lexemes : Lexemes
  left : Left s h lexemes
  starts : Starts lexemes
  reads : (q : Phrase) → Tail q → (ts : Trees) (d p : ℕ) → d + k ≡ 200
      → Met s (deep (phrase.expr 0) ▸ goto q) ts d p lexemes (tree ARRAY (number (count (ts ⊕ us)) ∷ []) (ts ⊕ us)) (place g) ys (behind h) (behind g)

record ElementsAt (s : List ℕ) (k : ℕ) (h : At) (us : Trees) (g : At) : Type 0 where
  there : There s (place g) (behind g)
  on : (ys : Lexemes) → Left s g ys → Elements s k h us g ys

-- The members of an object from h on; they are over before `}`, behind which g is.
record Members (s : List ℕ) (k : ℕ) (h : At) (us : Trees) (g : At) (ys : Lexemes) : Type 0 where
  lexemes : Lexemes
  left : Left s h lexemes
  named : Named lexemes
  last : ℕ
  start : ℕ
  said : Said
  reads : (c : ℕ) (ts : Trees) (d p : ℕ) → d + k ≡ 200
      → Met s (sub phrase.member ▸ goto (phrase.members c)) ts d p lexemes (tree MEMBERS (number (count (ts ⊕ us)) ∷ []) (ts ⊕ us)) last (lx R_BRACE start (place g) said ∷ ys) (behind h) (behind g)

record MembersAt (s : List ℕ) (k : ℕ) (h : At) (us : Trees) (g : At) : Type 0 where
  there : There s (place g) (behind g)
  on : (ys : Lexemes) → Left s g ys → Members s k h us g ys

abbrev Claim : List ℕ → Part → ℕ → At → Trees → At → Type 0
Claim s Part.value = ValueAt s
Claim s Part.unsigned = ValueAt s
Claim s Part.elements = ElementsAt s
Claim s Part.members = MembersAt s

-- ── Marks ─────────────────────────────────────────────────────────────────────────────────────────

-- From m on stands a mark, behind perhaps some blanks: at i, and behind it r.
record Struck (s : List ℕ) (k : ℕ) (m : At) (i : ℕ) (r : List ℕ) : Type 0 where
  there : There s (i + 1) r
  left : (ys : Lexemes) → Left s (i + 1 ▹ r) ys → Before s m k i (i + 1) ys
  on : Solidus outside (behind m) → Solidus outside r
  back : Solidus outside r → Solidus outside (behind m)

struck : {s : List ℕ} {b k : ℕ} {m : At} {i : ℕ} {r : List ℕ} → Mark b k → (b ≡ 0x22 → ⊥) → (b ≡ 0x5F → ⊥) → Ws m (i ▹ b ∷ r) → There s (place m) (behind m) → Struck s k m i r
struck {b = b} {r = r} mark n l w e =
    record {
      there = there_next (ws_there w e);
      left = λ ys x. let y = mark_left mark (ws_there w e) x in record { said = y.said; left = ws_left w e y.left };
      on = λ x. clear_on (b ∷ []) r (n, l, tt) (ws_on w x);
      back = λ x. ws_back w (clear_back (b ∷ []) r (n, l, tt) x);
    }

-- ── Leaves ────────────────────────────────────────────────────────────────────────────────────────

module _ {s : List ℕ} (u : Utf8 s) {k : ℕ} (room : k < 200) where
  null_value : {i : ℕ} {r : List ℕ} → There s i (0x6E ∷ 0x75 ∷ 0x6C ∷ 0x6C ∷ r) → ValueAt s k (i ▹ 0x6E ∷ 0x75 ∷ 0x6C ∷ 0x6C ∷ r) (tree NULL [] none) (i + 4 ▹ r)
  null_value {i} {r} e =
      record {
        shallow = room;
        there = there_behind w r e;
        on = λ ys x f over. let y = null_left u f e x in
            record { lexemes = _; left = y.left; starts = Starts.basic Basic.null; reads = λ m d p q. as_expr Basic.null over (same null_read (clear_on w r (clearly w tt)) (clear_back w r (clearly w tt))) };
      }
    where
      w : List ℕ
      w = 0x6E ∷ 0x75 ∷ 0x6C ∷ 0x6C ∷ []

  true_value : {i : ℕ} {r : List ℕ} → There s i (0x74 ∷ 0x72 ∷ 0x75 ∷ 0x65 ∷ r) → ValueAt s k (i ▹ 0x74 ∷ 0x72 ∷ 0x75 ∷ 0x65 ∷ r) (tree BOOL (byte 1 ∷ []) none) (i + 4 ▹ r)
  true_value {i} {r} e =
      record {
        shallow = room;
        there = there_behind w r e;
        on = λ ys x f over. let y = true_left u f e x in
            record { lexemes = _; left = y.left; starts = Starts.basic Basic.true; reads = λ m d p q. as_expr Basic.true over (same true_read (clear_on w r (clearly w tt)) (clear_back w r (clearly w tt))) };
      }
    where
      w : List ℕ
      w = 0x74 ∷ 0x72 ∷ 0x75 ∷ 0x65 ∷ []

  false_value : {i : ℕ} {r : List ℕ} → There s i (0x66 ∷ 0x61 ∷ 0x6C ∷ 0x73 ∷ 0x65 ∷ r) → ValueAt s k (i ▹ 0x66 ∷ 0x61 ∷ 0x6C ∷ 0x73 ∷ 0x65 ∷ r) (tree BOOL (byte 0 ∷ []) none) (i + 5 ▹ r)
  false_value {i} {r} e =
      record {
        shallow = room;
        there = there_behind w r e;
        on = λ ys x f over. let y = false_left u f e x in
            record { lexemes = _; left = y.left; starts = Starts.basic Basic.false; reads = λ m d p q. as_expr Basic.false over (same false_read (clear_on w r (clearly w tt)) (clear_back w r (clearly w tt))) };
      }
    where
      w : List ℕ
      w = 0x66 ∷ 0x61 ∷ 0x6C ∷ 0x73 ∷ 0x65 ∷ []

  string_value : {h g : At} {w : List ℕ} → There s (place h) (behind h) → String h w g → ValueAt s k h (leaf STRING w) g
  string_value e c =
      record {
        shallow = room;
        there = string_there u c e;
        on = λ ys x f over. let y = string_left u c e x in
            record { lexemes = _; left = y.left; starts = Starts.basic Basic.string; reads = λ m d p q. as_expr Basic.string over (string_read y.tells) };
      }

  number_value : {i : ℕ} {w r : List ℕ} → There s i (w ++ r) → Number w → (TooLarge w → ⊥) → ValueAt s k (i ▹ w ++ r) (leaf NUMBER w) (i + length w ▹ r)
  number_value {i} {w} {r} e n small =
      record {
        shallow = room;
        there = there_behind w r e;
        on = λ ys x f over.
            record {
              lexemes = _;
              left = number_left u n small f e x;
              starts = Starts.basic Basic.float;
              reads = λ m d p q. as_expr Basic.float over (same number_read (clear_on w r (number_clear n)) (clear_back w r (number_clear n)));
            };
      }

  -- A sign takes a level, and so its number stands one deeper.
  minus_value : {i : ℕ} {r : List ℕ} {t : Trees} {g : At} → There s i (0x2D ∷ r) → ValueAt s (k + 1) (i + 1 ▹ r) t g → ValueAt s k (i ▹ 0x2D ∷ r) (negative t) g
  minus_value {i} {r} {t} {g} e v = record { shallow = room; there = v.there; on = λ ys x f over. by ys over (v.on ys x f over) }
    where
      sign : Struck s MINUS (i ▹ 0x2D ∷ r) i r
      sign = struck Mark.minus (λ q. omega arith) (λ q. omega arith) Ws.none e

      by : (ys : Lexemes) → Shut ys → Value s (k + 1) (i + 1 ▹ r) t g ys → Value s k (i ▹ 0x2D ∷ r) (negative t) g ys
      by ys over y = record { lexemes = _; left = (sign.left y.lexemes y.left).left; starts = Starts.minus; reads = reads }
        where
          reads : (m d p : ℕ) → suc d + k ≡ 200
              → Met s (goto (phrase.expr m)) none d p (lx MINUS i (i + 1) (sign.left y.lexemes y.left).said ∷ y.lexemes) (negative t) (place g) ys (0x2D ∷ r) (behind g)
          reads m zero p q = absurd (omega (arith, v.shallow))
          reads m (suc d) p q = met_from sign.on sign.back (minus_read over (y.reads 20 d (i + 1) (omega arith)))

-- ── Arrays ────────────────────────────────────────────────────────────────────────────────────────

module _ {s : List ℕ} {k : ℕ} (room : k < 200) where
  empty_array_value : {i j : ℕ} {r q : List ℕ} → There s i (0x5B ∷ r) → Ws (i + 1 ▹ r) (j ▹ 0x5D ∷ q) → ValueAt s k (i ▹ 0x5B ∷ r) (array none) (j + 1 ▹ q)
  unfolding count
  empty_array_value {i} {j} {r} {q} e w =
      record {
        shallow = room;
        there = shuts.there;
        on = λ ys x f over.
            let y = shuts.left ys x in
            record {
              lexemes = _;
              left = (opens.left _ y.left).left;
              starts = Starts.basic Basic.brack;
              reads = λ m d p l. as_expr Basic.brack over (same no_elements (λ v. shuts.on (opens.on v)) (λ v. opens.back (shuts.back v)));
            };
      }
    where
      opens : Struck s L_BRACK (i ▹ 0x5B ∷ r) i r
      opens = struck Mark.l_brack (λ q. omega arith) (λ q. omega arith) Ws.none e

      shuts : Struck s R_BRACK (i + 1 ▹ r) j q
      shuts = struck Mark.r_brack (λ q. omega arith) (λ q. omega arith) w (there_next e)

  array_value : {i : ℕ} {r : List ℕ} {h g : At} {ts : Trees} → There s i (0x5B ∷ r) → Ws (i + 1 ▹ r) h → ElementsAt s (k + 1) h ts g → ValueAt s k (i ▹ 0x5B ∷ r) (array ts) g
  unfolding ◌⊕◌
  array_value {i} {r} e w v =
      record {
        shallow = room;
        there = v.there;
        on = λ ys x f over.
            let y = v.on ys x in
            record {
              lexemes = _;
              left = (opens.left _ (ws_left w (there_next e) y.left)).left;
              starts = Starts.basic Basic.brack;
              reads = λ m d p l. as_expr Basic.brack over (met_from (λ v. ws_on w (opens.on v)) (λ v. opens.back (ws_back w v))
                  (an_array y.starts (y.reads phrase.array_first Tail.first none d (i + 1) (omega arith))));
            };
      }
    where
      opens : Struck s L_BRACK (i ▹ 0x5B ∷ r) i r
      opens = struck Mark.l_brack (λ q. omega arith) (λ q. omega arith) Ws.none e

-- The last element, and an element with more behind it.
module _ {s : List ℕ} {k : ℕ} {h m : At} {t : Trees} (v : ValueAt s k h t m) where
  last_element : {i : ℕ} {r : List ℕ} → Ws m (i ▹ 0x5D ∷ r) → ElementsAt s k h t (i + 1 ▹ r)
  last_element {i} {r} w = record { there = shuts.there; on = λ ys x. let z = shuts.left ys x in by ys z.said (v.on _ z.left (follows_blanks w Follows.brack) Shut.brack) }
    where
      shuts : Struck s R_BRACK m i r
      shuts = struck Mark.r_brack (λ q. omega arith) (λ q. omega arith) w v.there

      by : (ys : Lexemes) (said : Said) → Value s k h t m (lx R_BRACK i (i + 1) said ∷ ys) → Elements s k h t (i + 1 ▹ r) ys
      by ys said y = record { lexemes = y.lexemes; left = y.left; starts = y.starts; reads = reads }
        where
          reads : (q : Phrase) → Tail q → (ts : Trees) (d p : ℕ) → d + k ≡ 200
              → Met s (deep (phrase.expr 0) ▸ goto q) ts d p y.lexemes (tree ARRAY (number (count (ts ⊕ t)) ∷ []) (ts ⊕ t)) (i + 1) ys (behind h) r
          reads q tail ts zero p l = absurd (omega (arith, v.shallow))
          reads q tail ts (suc d) p l = deep_then (y.reads 0 d p (omega arith)) (same (array_over tail) shuts.on shuts.back)

  next_element : {i : ℕ} {r : List ℕ} {n g : At} {us : Trees} → Ws m (i ▹ 0x2C ∷ r) → Ws (i + 1 ▹ r) n → ElementsAt s k n us g → ElementsAt s k h (t ⊕ us) g
  next_element {i} {r} {n} {g} {us} w b els =
      record {
        there = els.there;
        on = λ ys x.
            let y = els.on ys x in
            let z = comma.left y.lexemes (ws_left b comma.there y.left) in
            by ys y z.said (v.on _ z.left (follows_blanks w Follows.comma) Shut.comma);
      }
    where
      comma : Struck s COMMA m i r
      comma = struck Mark.comma (λ q. omega arith) (λ q. omega arith) w v.there

      by : (ys : Lexemes) (y : Elements s k n us g ys) (said : Said) → Value s k h t m (lx COMMA i (i + 1) said ∷ y.lexemes) → Elements s k h (t ⊕ us) g ys
      by ys y said z = record { lexemes = z.lexemes; left = z.left; starts = z.starts; reads = reads }
        where
          reads : (q : Phrase) → Tail q → (ts : Trees) (d p : ℕ) → d + k ≡ 200
              → Met s (deep (phrase.expr 0) ▸ goto q) ts d p z.lexemes (tree ARRAY (number (count (ts ⊕ (t ⊕ us))) ∷ []) (ts ⊕ (t ⊕ us))) (place g) ys (behind h) (behind g)
          reads q tail ts zero p l = absurd (omega (arith, v.shallow))
          reads q tail ts (suc d) p l =
              subst (λ (x : Trees). Met s (deep (phrase.expr 0) ▸ goto q) ts (suc d) p z.lexemes (tree ARRAY (number (count x) ∷ []) x) (place g) ys (behind h) (behind g)) (row_assoc ts t us)
              (deep_then (z.reads 0 d p (omega arith)) (met_from (λ x. ws_on b (comma.on x)) (λ x. comma.back (ws_back b x))
              (met_by (λ o x. array_on tail y.starts x) (y.reads phrase.elements Tail.later (ts ⊕ t) (suc d) (i + 1) (omega arith)))))

-- ── Objects ───────────────────────────────────────────────────────────────────────────────────────

module _ {s : List ℕ} {k : ℕ} (room : k < 200) where
  empty_object_value : {i j : ℕ} {r q : List ℕ} → There s i (0x7B ∷ r) → Ws (i + 1 ▹ r) (j ▹ 0x7D ∷ q) → ValueAt s k (i ▹ 0x7B ∷ r) (object none) (j + 1 ▹ q)
  unfolding count
  empty_object_value {i} {j} {r} {q} e w =
      record {
        shallow = room;
        there = shuts.there;
        on = λ ys x f over.
            let y = shuts.left ys x in
            record {
              lexemes = _;
              left = (opens.left _ y.left).left;
              starts = Starts.basic Basic.brace;
              reads = λ m d p l. as_expr Basic.brace over (same no_members (λ v. shuts.on (opens.on v)) (λ v. opens.back (shuts.back v)));
            };
      }
    where
      opens : Struck s L_BRACE (i ▹ 0x7B ∷ r) i r
      opens = struck Mark.l_brace (λ q. omega arith) (λ q. omega arith) Ws.none e

      shuts : Struck s R_BRACE (i + 1 ▹ r) j q
      shuts = struck Mark.r_brace (λ q. omega arith) (λ q. omega arith) w (there_next e)

  object_value : {i : ℕ} {r : List ℕ} {h g : At} {ts : Trees} → There s i (0x7B ∷ r) → Ws (i + 1 ▹ r) h → MembersAt s (k + 1) h ts g → ValueAt s k (i ▹ 0x7B ∷ r) (object ts) g
  unfolding ◌⊕◌
  object_value {i} {r} e w v =
      record {
        shallow = room;
        there = v.there;
        on = λ ys x f over.
            let y = v.on ys x in
            record {
              lexemes = _;
              left = (opens.left _ (ws_left w (there_next e) y.left)).left;
              starts = Starts.basic Basic.brace;
              reads = λ m d p l. as_expr Basic.brace over (met_from (λ v. ws_on w (opens.on v)) (λ v. opens.back (ws_back w v))
                  (an_object y.named (y.reads 0 none d (i + 1) (omega arith))));
            };
      }
    where
      opens : Struck s L_BRACE (i ▹ 0x7B ∷ r) i r
      opens = struck Mark.l_brace (λ q. omega arith) (λ q. omega arith) Ws.none e

-- A field from h to m, before the lexemes ys.
record Field (s : List ℕ) (k : ℕ) (h : At) (f : Trees) (m : At) (ys : Lexemes) : Type 0 where
  lexemes : Lexemes
  left : Left s h lexemes
  named : Named lexemes
  reads : (d p : ℕ) → suc d + k ≡ 200 → Met s (goto phrase.member) none (suc d) p lexemes f (place m) ys (behind h) (behind m)

record FieldAt (s : List ℕ) (k : ℕ) (h : At) (f : Trees) (m : At) : Type 0 where
  shallow : k < 200
  there : There s (place m) (behind m)
  on : (ys : Lexemes) → Left s m ys → Follows (behind m) → Shut ys → Field s k h f m ys

-- Its name, its colon, its value.
field_at : {s : List ℕ} {k a e i : ℕ} {x y r w : List ℕ} {h m : At} {t : Trees} → Utf8 s → There s a x → String (a ▹ x) w (e ▹ y) → Ws (e ▹ y) (i ▹ 0x3A ∷ r) → Ws (i + 1 ▹ r) h
    → ValueAt s k h t m → FieldAt s k (a ▹ x) (field w a e t) m
field_at {s} {k} {a} {e} {i} {x} {y} {r} {w} {h} {m} {t} u there name b c v =
    record {
      shallow = v.shallow;
      there = v.there;
      on = λ ys z f over.
          let value = v.on ys z f over in
          let mark = colon.left value.lexemes (ws_left c colon.there value.left) in
          by ys value mark.said (string_left u name there mark.left);
    }
  where
    colon : Struck s COLON (e ▹ y) i r
    colon = struck Mark.colon (λ q. omega arith) (λ q. omega arith) b (string_there u name there)

    by : (ys : Lexemes) (z : Value s k h t m ys) (said : Said) → StringLeft s (a ▹ x) w (e ▹ y) (lx COLON i (i + 1) said ∷ z.lexemes) → Field s k (a ▹ x) (field w a e t) m ys
    by ys z said n =
        record {
          lexemes = _;
          left = n.left;
          named = Named.named;
          reads = λ d p l. member_read n.tells z.starts (met_from (λ q. ws_on c (colon.on q)) (λ q. colon.back (ws_back c q)) (z.reads 0 d (i + 1) l));
        }

-- The last member, and a member with more behind it.
module _ {s : List ℕ} {k : ℕ} {h m : At} {f : Trees} (v : FieldAt s k h f m) where
  last_member : {i : ℕ} {r : List ℕ} → Ws m (i ▹ 0x7D ∷ r) → MembersAt s k h f (i + 1 ▹ r)
  last_member {i} {r} w = record { there = shuts.there; on = λ ys x. let z = shuts.left ys x in by ys z.said (v.on _ z.left (follows_blanks w Follows.brace) Shut.brace) }
    where
      shuts : Struck s R_BRACE m i r
      shuts = struck Mark.r_brace (λ q. omega arith) (λ q. omega arith) w v.there

      by : (ys : Lexemes) (said : Said) → Field s k h f m (lx R_BRACE i (i + 1) said ∷ ys) → Members s k h f (i + 1 ▹ r) ys
      by ys said y = record { lexemes = y.lexemes; left = y.left; named = y.named; last = place m; start = i; said = said; reads = reads }
        where
          reads : (c : ℕ) (ts : Trees) (d p : ℕ) → d + k ≡ 200
              → Met s (sub phrase.member ▸ goto (phrase.members c)) ts d p y.lexemes (tree MEMBERS (number (count (ts ⊕ f)) ∷ []) (ts ⊕ f)) (place m) (lx R_BRACE i (i + 1) said ∷ ys) (behind h) r
          reads c ts zero p l = absurd (omega (arith, v.shallow))
          reads c ts (suc d) p l = sub_then (y.reads d p (omega arith)) (same members_over shuts.on shuts.back)

  next_member : {i : ℕ} {r : List ℕ} {n g : At} {us : Trees} → Ws m (i ▹ 0x2C ∷ r) → Ws (i + 1 ▹ r) n → MembersAt s k n us g → MembersAt s k h (f ⊕ us) g
  next_member {i} {r} {n} {g} {us} w b more =
      record {
        there = more.there;
        on = λ ys x.
            let y = more.on ys x in
            let z = comma.left y.lexemes (ws_left b comma.there y.left) in
            by ys y z.said (v.on _ z.left (follows_blanks w Follows.comma) Shut.comma);
      }
    where
      comma : Struck s COMMA m i r
      comma = struck Mark.comma (λ q. omega arith) (λ q. omega arith) w v.there

      by : (ys : Lexemes) (y : Members s k n us g ys) (said : Said) → Field s k h f m (lx COMMA i (i + 1) said ∷ y.lexemes) → Members s k h (f ⊕ us) g ys
      by ys y said z = record { lexemes = z.lexemes; left = z.left; named = z.named; last = y.last; start = y.start; said = y.said; reads = reads }
        where
          reads : (c : ℕ) (ts : Trees) (d p : ℕ) → d + k ≡ 200
              → Met s (sub phrase.member ▸ goto (phrase.members c)) ts d p z.lexemes (tree MEMBERS (number (count (ts ⊕ (f ⊕ us))) ∷ []) (ts ⊕ (f ⊕ us))) y.last
              (lx R_BRACE y.start (place g) y.said ∷ ys) (behind h) (behind g)
          reads c ts zero p l = absurd (omega (arith, v.shallow))
          reads c ts (suc d) p l =
              subst (λ (x : Trees). Met s (sub phrase.member ▸ goto (phrase.members c)) ts (suc d) p z.lexemes (tree MEMBERS (number (count x) ∷ []) x) y.last
              (lx R_BRACE y.start (place g) y.said ∷ ys) (behind h) (behind g)) (row_assoc ts f us)
              (sub_then (z.reads d p (omega arith)) (met_from (λ x. ws_on b (comma.on x)) (λ x. comma.back (ws_back b x))
              (met_by (λ o x. members_on y.named x) (y.reads (with_field c) (ts ⊕ f) (suc d) (i + 1) (omega arith)))))

-- ── The induction ─────────────────────────────────────────────────────────────────────────────────

shallow : {k : ℕ} → (TooDeep k → ⊥) → k < 200
shallow n = omega arith

module _ {s : List ℕ} (u : Utf8 s) where
  -- EVERY PART OF A JSON TEXT IS READ ALIKE, or has a `\/`.
  claim : {part : Part} {k : ℕ} {h g : At} {t : Trees} → Reads TooDeep TooLarge part k h (whole t g) → There s (place h) (behind h) → Claim s part k h t g
  claim (json.Reads.a_false n) e = false_value u (shallow n) e
  claim (json.Reads.a_null n) e = null_value u (shallow n) e
  claim (json.Reads.a_true n) e = true_value u (shallow n) e
  claim (json.Reads.a_string n c) e = string_value u (shallow n) e c
  claim (json.Reads.positive r) e = claim r e
  claim (json.Reads.minus n r) e = minus_value u (shallow n) e (claim r (there_next e))
  claim (json.Reads.a_number n (literal w l) small) e = number_value u (shallow n) e w small
  claim (json.Reads.empty_array n (closes w)) e = empty_array_value (shallow n) e w
  claim (json.Reads.an_array n w r) e = array_value (shallow n) e w (claim r (ws_there w (there_next e)))
  claim (json.Reads.last_element r (closes w)) e = last_element (claim r e) w
  claim (json.Reads.next_element r (around (closes w) b) l) e =
      let v = claim r e in
      next_element v w b (claim l (ws_there b (there_next (ws_there w v.there))))
  claim (json.Reads.empty_object n (closes w)) e = empty_object_value (shallow n) e w
  claim (json.Reads.an_object n w r) e = object_value (shallow n) e w (claim r (ws_there w (there_next e)))
  claim (json.Reads.last_member (json.Named.named c (around (closes b) d)) r (closes w)) e =
      last_member (field_at u e c b d (claim r (ws_there d (there_next (ws_there b (string_there u c e)))))) w
  claim (json.Reads.next_member (json.Named.named c (around (closes b) d)) r (around (closes w) f) l) e =
      let v = field_at u e c b d (claim r (ws_there d (there_next (ws_there b (string_there u c e))))) in
      next_member v w f (claim l (ws_there f (there_next (ws_there w v.there))))

-- ── A whole text ──────────────────────────────────────────────────────────────────────────────────

-- What the reader of Jsonnet makes of a JSON text: the same tree, and it has no `\/`; or number 9 at a `\/`, and it has.
pub data Whole (s : List ℕ) (t : Trees) (xs : Lexemes) : Type 0 where
  alike : {r : ℕ} → Rd source none 200 0 xs (done t r []) → (Solidus outside s → ⊥) → Whole s t xs
  refused : {j x : ℕ} {zs : Lexemes} → Rd source none 200 0 xs (broken ESCAPE j zs x) → SolidusAt s x → Solidus outside s → Whole s t xs

no_end : Solidus outside [] → ⊥
no_end = elim [ ]

follows_end : {h : At} {n : ℕ} → Ws h (n ▹ []) → Follows (behind h)
follows_end w = follows_blanks w Follows.nothing

pub text_read : {s : List ℕ} {t : Trees} → Utf8 s → Text TooDeep TooLarge s (answers.tree t) → (xs : Lexemes) × Left s (0 ▹ s) xs × Whole s t xs
unfolding ◌⊕◌ count
text_read {s} {t} u (texts.Text.whole {g = g} {n = n} w r b) =
    let e : There s 0 s = record { rest = refl } in
    let v = claim u r (ws_there w e) in
    let y = v.on [] (ws_left b v.there (end_left (ws_there b v.there))) (follows_end b) Shut.nothing in
    (y.lexemes, ws_left w e y.left, by (y.reads 0 199 0 (omega arith)) (λ q. no_end (ws_on b q)) (λ q. ws_on w q) (λ q. ws_back w q))
  where
    by : {xs : Lexemes} {x z : List ℕ} → Met s (goto (phrase.expr 0)) none 199 0 xs t (place g) [] x z → (Solidus outside z → ⊥) → (Solidus outside s → Solidus outside x)
        → (Solidus outside x → Solidus outside s) → Whole s t xs
    by (same (gone l) f k) over on back = alike (deepened l (eaten refl ended)) (λ q. over (f (on q)))
    by (nine (gone l) p q) over on back = refused (undeepened l) p (back q)
