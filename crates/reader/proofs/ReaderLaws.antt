-- Laws of the reader: the lexemes of a source are what its first cursor sees, a phrase's answer is document 01's verdict, and what is cleared.
-- Assumes nothing.
use mathlib.Core.Path.{◌≡◌, refl, sym, ap, subst, subst⁻¹, ◌∙◌}
use mathlib.Core.Bool.{Bool, true, false, not, cond}
use mathlib.Core.List.{List, [], ◌∷◌, ◌++◌, append-nil}
use mathlib.Core.Logic.{◌⊎◌, inl, inr}
use Prim.Native.Nat.{ℕ, ◌+◌, ◌-◌, ◌≤◌, ◌<◌}
use native.Mathlib.Omega.{arith}
use borrow.Author.Tests.{ne_eqb, eqb-true, not-true, not-false}
use lib.Dec.{eqb}
use lib.ListN.{length, take, drop, replicate, length-drop, drop_of_length-le}
use lib.Seq.{sets, sets-eq, take_at, take_all, length-sets}
use Rattle.strings.specs.Utf8.{Utf8, ValidTo}
use Rattle.strings.proofs.CharacterLaws.{valid_whole}
use Rattle.lexemes.specs.declared.Lexeme.{Lexeme as Range}
use Rattle.lexemes.specs.Kinds.{EOF}
use Rattle.lexemes.specs.Lexeme.{lexeme}
use Rattle.lexemes.specs.Kept.{FirstBad}
use Rattle.lexemes.specs.Kept as lexemes
use Rattle.lexemes.proofs.Laws.{lexeme_not_eof}
use Rattle.lexemes.proofs.KeptLaws.{Rest, next, kept_step, kept_always, first_bad_once}
use Rattle.grammar.specs.Numbers.{TREE, SETTING, LONG, ENCODING, LEXEME, WANTED, ABSENT, EXPRESSION, MISPLACED, ESCAPE, DEPTH, ROOM, LARGE, met_with}
use Rattle.grammar.specs.Trees.{Trees, none, count as size}
use Rattle.grammar.specs.Image.{image}
use Rattle.grammar.specs.Lexemes.{Lexeme as Token, stop_of}
use Rattle.grammar.specs.Says.{Told}
use Rattle.grammar.specs.Productions.{end, ◌▸◌, eat, deep, expr, source}
use Rattle.grammar.specs.Reading.{Outcome, done, broken, Reading as Derivation, ended, eaten, uneaten}
use Rattle.grammar.specs.Answer.{Answer as Handed, Verdict, refused, tree, verdict, Judged, read, answer, output, valid_setting, document_01}
use Rattle.grammar.specs.Source.{Bad, bad, Kept, kept}
use Rattle.grammar.proofs.Chosen.{true_false, holds}
use Rattle.grammar.proofs.NumberLaws.{refusal as met-in-reading}
use Rattle.grammar.proofs.Source.{told_always, lexing}
use Rattle.grammar.proofs.Taken.{tree_kept}
use Rattle.leaves.specs.Lexing.{Left, over, more, Stands}
use Rattle.leaves.specs.Meets.{power, state, Seg, Breaks, Takes}
use Rattle.reader.specs.Reader.{Reading, refusal, numbers, written, Admitted, Met, Parsed, Parses, Finds, Reads}
use Rattle.leaves.specs.declared.Cursor.{Cursor}
use Rattle.leaves.specs.declared.Refusal.{Refusal}
use Rattle.leaves.specs.Meets.{Answer}
use Rattle.leaves.specs.declared.Done.{Done}
use Rattle.std.specs.Prelude.{Ok, Err}
use Rattle.reader.specs.declared.Unread.{Unread}
use Rattle.reader.specs.declared.Unread.TheVariants.{Setting, Long, Encoding, Lexeme, Wanted, Absent, Expression, Misplaced, Escape, Depth, Room, Large}
use Rattle.leaves.proofs.LexemeLaws.{sees}
use Rattle.reader.proofs.AnswerLaws.{fits-answer, fits-output, lacks_answer, lacks_output}
use Rattle.leaves.proofs.Steps

-- ── The lexemes of a source ───────────────────────────────────────────────────────────────────────

first_rest : {s : List ℕ} {at : ℕ} {l : Range} {ls : List Range} → Rest s at (l ∷ ls) → (l.kind ≡ EOF → ⊥) × lexemes.Kept s l.end ls
first_rest {s} (next f h g d n r) = (lexeme_not_eof s (omega arith) d, r)

-- The kept lexemes from a place on, with what they say, are those that are left there.
pub left_of : {s : List ℕ} {at : ℕ} {ranges : List Range} {xs : List Token} → lexemes.Kept s at ranges → Told s ranges xs → Left s at xs
left_of k Told.none = over (record { left = []; is_left = k; is_first = refl })
left_of k (Told.more t ts) = let r = first_rest (kept_step k) in more (record { left = _; is_left = k; is_first = refl }) r.0 t (left_of r.1 ts)

-- Every source has some.
left_always : (s : List ℕ) → (xs : List Token) × Left s 0 xs
left_always s =
    let k = kept_always s 0 in
    let t = told_always s k.0 in
    (t.0, left_of k.1 t.1)

-- Where the first bad lexeme is the end, none is bad.
end_first : {s : List ℕ} {l : Range} → Utf8 s → FirstBad s l → l.kind ≡ EOF → FirstBad s (lexeme EOF (length s) (length s))
end_first {s} {l} u b e = by (lexing.lexed s u)
  where
    by : ((k : ℕ) × (a : ℕ) × (z : ℕ) × Bad s k a z) ⊎ ((xs : List Token) × Kept s xs) → FirstBad s (lexeme EOF (length s) (length s))
    by (inl (k, a, z, bad n x)) = absurd (n (sym (ap (λ (y : Range). y.kind) (first_bad_once b x)) ∙ e))
    by (inr (xs, kept x k t)) = x

-- All bytes are valid.
pub valid_all : {s : List ℕ} {n : ℕ} → ValidTo s n → length s ≤ n → Utf8 s
valid_all v h = valid_whole v (omega (arith, v.within))

-- What the lexemes of a source are read as is what the phrases make of it.
met_by : {g : ℕ} {s : List ℕ} {v : Verdict} → ((xs : List Token) → Left s 0 xs → (o : Outcome) × Derivation (power g) g source none 200 0 xs o × (verdict o ≡ v)) → Met g s v
met_by {s = s} f =
    let k = kept_always s 0 in
    let t = told_always s k.0 in
    let o = f t.0 (left_of k.1 t.1) in
    record { ranges = k.0; tokens = t.0; kept = k.1; told = t.1; outcome = o.0; reads = o.1; so = o.2 }

no_tree : {n a e x : ℕ} {ts : Trees} → refused n a e x ≡ tree ts → ⊥
no_tree e = let z : ◌≡◌ {A = ℕ} 0 1 = cc in omega arith

module _ {g : ℕ} {s : List ℕ} (a : Admitted g s) where
  judged_kept : {v : Verdict} (m : Met g s v) → Kept s m.tokens → Judged Bad Kept document_01 g s v
  judged_kept m k = subst (λ (v : Verdict). Judged Bad Kept document_01 g s v) m.so (read a.known a.short a.valid k m.reads)

  -- With no bad lexeme that is what is found out about it.
  judged_good : {v : Verdict} {l : Range} → FirstBad s l → l.kind ≡ EOF → Met g s v → Judged Bad Kept document_01 g s v
  judged_good b e m = judged_kept m (kept (end_first a.valid b e) m.kept m.told)

  -- Where there is a tree there is no bad lexeme.
  judged_tree : {ts : Trees} → Met g s (tree ts) → Judged Bad Kept document_01 g s (tree ts)
  unfolding verdict
  judged_tree {ts} m = judged_kept m (by m.outcome m.reads m.so)
    where
      by : (o : Outcome) → Derivation (power g) g source none 200 0 m.tokens o → verdict o ≡ tree ts → Kept s m.tokens
      by (done us p ys) z e = tree_kept a.valid m.kept m.told z
      by (broken n p ys x) z e = absurd (no_tree e)

-- ── What an expression's answer says of the whole source ──────────────────────────────────────────

module _ {g : ℕ} {s out : List ℕ} {c : Cursor} {a : Answer} {out' : List ℕ} (at : (c.at ≡ 0) × Stands s c)
    (t : Takes g s (deep (expr 0)) 1 0 200 c 0 out a out') where
  from_start : {xs : List Token} → Left s 0 xs → Left s c.at xs
  from_start {xs} l = subst⁻¹ (λ (p : ℕ). Left s p xs) at.0 l

  to_start : {xs : List Token} {o : Outcome} → Derivation (power g) g source none 200 c.at xs o → Derivation (power g) g source none 200 0 xs o
  to_start {xs} {o} r = subst (λ (p : ℕ). Derivation (power g) g source none 200 p xs o) at.0 r

  -- broken off
  module _ {r : Refusal} (q : a ≡ Err r) where
    broke : Breaks g s 200 (state source 0 c 0 out) r
    broke = Steps.refused (t.takes (eat EOF ▸ end) 0) q

    refusal_made : Met g s (refused r.number r.place.start r.place.end r.detail)
    unfolding size verdict
    refusal_made =
        met_by (λ xs l.
        let b = broke.breaks none xs refl (from_start l) in
        let y = sees broke.stands refl b.kept in (
          _,
          to_start b.reading,
          ap (λ (n : ℕ). refused r.number n (stop_of r.place.at b.left) r.detail) y.start
              ∙ ap (λ (n : ℕ). refused r.number r.place.start n r.detail) y.stop,
        ))

    refusal_met : met_with r.number r.detail ≡ true
    unfolding size
    refusal_met =
        let some = left_always s in
        let b = broke.breaks none some.0 refl (from_start some.1) in
        holds (met_with r.number r.detail) (met-in-reading (power g) g (to_start b.reading))

    pub parses_broken : {b : Answer} → b ≡ Err r → Parses g s out b out'
    unfolding Parsed
    parses_broken e = record { parsed = subst⁻¹ (λ (y : Answer). Parsed g s out y out') e (refusal_made, refusal_met) }

  -- done, up to a cursor
  module _ {x : Done} (q : a ≡ Ok x) where
    whole : Seg g s 200 (state source 0 c 0 out) 0 0 (state (eat EOF ▸ end) 1 x.0 x.1 out')
    whole = Steps.led (t.takes (eat EOF ▸ end) 0) q

    -- with a lexeme there
    more_made : ¬ (x.0.kind ≡ EOF) → Met g s (refused WANTED x.0.start x.0.end EOF)
    unfolding size verdict
    more_made n =
        met_by (λ xs l.
        let b = whole.run none xs refl (from_start l) in
        let y = sees (whole.stands at.1) refl b.kept in (
          _,
          to_start (b.back _ (uneaten (λ e. n (sym y.kind ∙ e)))),
          ap (λ (n : ℕ). refused WANTED n (stop_of x.0.at b.left) EOF) y.start ∙ ap (λ (n : ℕ). refused WANTED x.0.start n EOF) y.stop,
        ))

    -- with none
    tree_made : x.0.kind ≡ EOF → Met g s (tree (whole.trees none))
    unfolding size verdict
    tree_made e =
        met_by (λ xs l.
        let b = whole.run none xs refl (from_start l) in
        let y = sees (whole.stands at.1) refl b.kept in
        (_, to_start (b.back _ (eaten (y.kind ∙ e) ended)), refl))

    image_is : image (whole.trees none) ≡ whole.bytes
    unfolding image
    image_is = whole.imaged none

    tree_long : x.1 ≡ length (image (whole.trees none))
    tree_long = let z : x.1 ≡ 0 + length whole.bytes = whole.wrote in omega (arith, z, ap length image_is)

    tree_stored : out' ≡ sets out 0 (image (whole.trees none))
    tree_stored = whole.stored ∙ ap (λ (l : List ℕ). sets out 0 l) (sym image_is)

    pub parses_more : {b : Answer} → ¬ (x.0.kind ≡ EOF) → b ≡ Err (record { number = WANTED; place = x.0; detail = EOF }) → Parses g s out b out'
    unfolding Parsed met_with
    parses_more n e = record { parsed = subst⁻¹ (λ (y : Answer). Parsed g s out y out') e (more_made n, refl) }

    pub parses_tree : x.0.kind ≡ EOF → Parses g s out (Ok x) out'
    unfolding Parsed
    parses_tree e = record { parsed = (whole.trees none, tree_made e, tree_long, tree_stored) }

-- ── Settings ──────────────────────────────────────────────────────────────────────────────────────

-- What the code's test `!valid(setting)` tells.
module _ (setting : ℕ) (t : Bool) (e : t ≡ valid_setting setting) where
  pub is_setting : not t ≡ false → valid_setting setting ≡ true
  is_setting n = sym e ∙ not-false t n

  pub no_setting : not t ≡ true → valid_setting setting ≡ false
  no_setting n = sym e ∙ not-true t n

-- ── What is found ─────────────────────────────────────────────────────────────────────────────────

-- a refusal has no image
either : (b : Bool) → ◌≡◌ {A = ℕ} (cond b 0 0) 0
either true = refl
either false = refl

no_size : {n a e x : ℕ} (r : Reading) → numbers r ≡ refusal n a e x → written r ≡ 0
unfolding written
no_size {n} r q = ap (λ (y : Handed). cond (eqb y.number TREE) y.size 0) q ∙ either (eqb n TREE)

same_long : (out out' bs : List ℕ) → out' ≡ sets out 0 bs → length out' ≡ length out
same_long out out' bs e = ap length e ∙ length-sets out 0 bs

minus_none : (n : ℕ) → n - 0 ≡ n
minus_none n = omega arith

module _ {g : ℕ} {s out out' : List ℕ} where
  -- a refusal
  pub finds_refusal : {n a e x : ℕ} {r : Reading} → Judged Bad Kept document_01 g s (refused n a e x) → numbers r ≡ refusal n a e x → Finds g s out r out'
  unfolding answer output
  finds_refusal {n} {r = r} j q =
      let z = no_size r q in
      record {
        found = _;
        judged = j;
        told = q;
        room = omega (arith, z);
        left = ap (λ (n : ℕ). replicate n 0) (sym (minus_none (length out))) ∙ ap (λ (n : ℕ). take n out' ++ replicate (length out - n) 0) (sym z);
      }

  -- what the phrases refuse, and what they have a tree of
  module _ {a : Answer} (ok : Admitted g s) (p : Parses g s out a out') where
    refused_by : {r : Refusal} → a ≡ Err r → Parsed g s out (Err r) out'
    refused_by q = subst (λ (y : Answer). Parsed g s out y out') q p.parsed

    pub broken_met : {r : Refusal} → a ≡ Err r → met_with r.number r.detail ≡ true
    unfolding Parsed
    broken_met q = (refused_by q).1

    pub finds_broken : {r : Refusal} {y : Reading} {l : Range} → a ≡ Err r → FirstBad s l → l.kind ≡ EOF → numbers y ≡ refusal r.number r.place.start r.place.end r.detail → Finds g s out y out'
    unfolding Parsed
    finds_broken q b z e = finds_refusal (judged_good ok b z (refused_by q).0) e

    done_by : {x : Done} → a ≡ Ok x → Parsed g s out (Ok x) out'
    done_by q = subst (λ (y : Answer). Parsed g s out y out') q p.parsed

    -- without room
    pub finds_long : {d : Done} → a ≡ Ok d → length out' < d.1 → Finds g s out (Err (Room d.1)) out'
    unfolding numbers written Parsed
    finds_long d h =
        let x = done_by d in
        let ts = x.0 in
        let q = x.2 in
        let e = x.3 in
        let z : length out < length (image ts) = omega (arith, q, h, same_long out out' (image ts) e) in
        record {
          found = _;
          judged = judged_tree ok x.1;
          told = ap (λ (n : ℕ). numbers (Err (Room n))) q ∙ sym (lacks_answer (length out) ts z);
          room = omega arith;
          left = lacks_output (length out) ts z ∙ ap (λ (n : ℕ). replicate n 0) (sym (minus_none (length out)));
        }

    -- with room
    pub finds_tree : {d : Done} → a ≡ Ok d → d.1 ≤ length out' → Finds g s out (Ok d.1) out'
    unfolding numbers written Parsed
    finds_tree {d = y} d h =
        let x = done_by d in
        let ts = x.0 in
        let q = x.2 in
        let e = x.3 in
        let z : length (image ts) ≤ length out = omega (arith, q, h, same_long out out' (image ts) e) in
        let p : out' ≡ image ts ++ drop (0 + length (image ts)) out = e ∙ sets-eq (image ts) out 0 (omega (arith, z)) in
        record {
          found = _;
          judged = judged_tree ok x.1;
          told = ap (λ (n : ℕ). numbers (Ok n)) q ∙ sym (fits-answer (length out) ts z);
          room = omega (arith, q, z);
          left =
              fits-output (length out) ts z
              ∙ ap (λ (n : ℕ). image ts ++ replicate (length out - n) 0) (sym q)
              ∙ ap (λ (l : List ℕ). l ++ replicate (length out - y.1) 0) (sym (ap (take y.1) p ∙ take_at (image ts) (drop (0 + length (image ts)) out) y.1 (sym q)));
        }

  -- and what is beyond it cleared
  pub reads_cleared : {r : Reading} {n : ℕ} {last : List ℕ} → Finds g s out r out' → n ≡ written r → length out' ≡ length out
      → last ≡ replicate (length (take (length out' - n) (drop n out'))) 0 → Reads g s out r (take n out' ++ (last ++ drop (length out' - n) (drop n out')))
  reads_cleared {r} {n} {last} f q k e =
      record {
        found = f.found;
        judged = f.judged;
        answered = f.told;
        written =
            ap (λ (l : List ℕ). take n out' ++ (last ++ l)) (drop_of_length-le (drop n out') {i = length out' - n} (omega (arith, length-drop n out')))
            ∙ ap (λ (l : List ℕ). take n out' ++ l) (append-nil last ∙ e ∙ ap (λ (m : ℕ). replicate m 0) long)
            ∙ ap (λ (m : ℕ). take m out' ++ replicate (length out - m) 0) q
            ∙ sym f.left;
      }
    where
      long : length (take (length out' - n) (drop n out')) ≡ length out - n
      long = ap length (take_all (length out' - n) (drop n out') (omega (arith, length-drop n out'))) ∙ length-drop n out' ∙ ap (λ (m : ℕ). m - n) k

-- ── Refusals by their numbers ─────────────────────────────────────────────────────────────────────

-- Rows that are not met, then a row, then one that is not: it is that row.
of_rows : (a b c d e t u v : Bool) → cond a false (cond b false (cond c false (cond d false (cond e false (cond t u (cond v false false)))))) ≡ true → t ≡ true
of_rows true b c d e t u v h = absurd (true_false (sym h))
of_rows false true c d e t u v h = absurd (true_false (sym h))
of_rows false false true d e t u v h = absurd (true_false (sym h))
of_rows false false false true e t u v h = absurd (true_false (sym h))
of_rows false false false false true t u v h = absurd (true_false (sym h))
of_rows false false false false false true u v h = refl
of_rows false false false false false false u true h = absurd (true_false (sym h))
of_rows false false false false false false u false h = absurd (true_false (sym h))

module _ {n : ℕ} (x : ℕ) (h : met_with n x ≡ true) where
  -- a number whose row has no detail
  pub no_detail : (k : ℕ) → met_with k x ≡ eqb x 0 → n ≡ k → x ≡ 0
  no_detail k row e = eqb-true x 0 (sym row ∙ subst (λ (m : ℕ). met_with m x ≡ true) e h)

  -- what is none of the others is the depth
  pub depth_else : ¬ (n ≡ WANTED) → ¬ (n ≡ ABSENT) → ¬ (n ≡ EXPRESSION) → ¬ (n ≡ MISPLACED) → ¬ (n ≡ ESCAPE) → ¬ (n ≡ LARGE) → n ≡ DEPTH
  unfolding met_with
  depth_else a b c d e l =
      eqb-true n DEPTH
      (of_rows (eqb n TREE) (eqb n SETTING) (eqb n LONG) (eqb n ENCODING) (eqb n LEXEME) (eqb n DEPTH) (eqb x 0) (eqb n ROOM)
      (rw (ne_eqb n WANTED a, ne_eqb n ABSENT b, ne_eqb n EXPRESSION c, ne_eqb n MISPLACED d, ne_eqb n ESCAPE e, ne_eqb n LARGE l) at h))

-- Only a tree has an image.
pub no_image : (u : Unread) → 0 ≡ written (Err u)
unfolding written numbers
no_image Setting = refl
no_image Long = refl
no_image (Encoding n) = refl
no_image (Lexeme a e k) = refl
no_image (Wanted a e k) = refl
no_image (Absent a e x) = refl
no_image (Expression a e) = refl
no_image (Misplaced a e x) = refl
no_image (Escape a e x) = refl
no_image (Depth a e) = refl
no_image (Room n) = refl
no_image (Large a e) = refl
