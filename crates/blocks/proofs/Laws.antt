-- The theorems about text blocks that the layers above cite: one answer, its end, one text, and what the text has.
-- Assumes nothing.
use mathlib.Core.Path.{◌≡◌, refl, sym, ◌∙◌, ap, subst}
use mathlib.Core.Bool.{Bool, true, false, true≢false}
use mathlib.Core.List.{List, [], ◌∷◌, ◌++◌, nil≢cons, cons≢nil, tail-eq_of_cons-eq}
use mathlib.Core.Logic.{⊎_elim}
use Prim.Native.Nat.{ℕ, ◌+◌, ◌-◌, ◌≤◌}
use native.Mathlib.Omega.{arith}
use lib.ListN.{length, drop, length-append, length-drop}
use Rattle.strings.specs.Decoding.{Decoded, Decoding, Missing, missing}
use Rattle.strings.proofs.DecodingLaws.{missing_once}
use Rattle.std.specs.Prelude.{Ok, Err}
use Rattle.blocks.specs.declared.BlockFault.TheVariants.{UnexpectedEnd, MissingNewLine, MissingTermination, MissingIndent}
use Rattle.blocks.specs.Blocks.{Run, stop, more, HeaderBlank, InLine, Dash, there, header, Indent, first, Lines, empty, content, Other, Found, good, unexpected_end, missing_new_line, missing_indent, missing_termination, closed, another, Body, indented, Stands, after_header, joined, text, BlockText, means, ends, Block, fault_at, BlockAt, a_good, an_unexpected_end, a_missing_new_line, a_missing_indent, a_missing_termination}
use Rattle.blocks.proofs.Runs.{run_split, run_once, run_length}
use Rattle.blocks.proofs.Texts.{ended, joined_ended, lines_length}
use Rattle.blocks.proofs.Once.{dash_once, header_once, header_length, body_once, stands_once, stands_length}

-- One answer for each source and place.

-- the answer of a kind that ends at a place
abbrev answer : Found → ℕ → Block
answer (good lines) e = Ok e
answer unexpected_end e = Err (fault_at UnexpectedEnd e)
answer missing_new_line e = Err (fault_at MissingNewLine e)
answer missing_indent e = Err (fault_at MissingIndent e)
answer missing_termination e = Err (fault_at MissingTermination e)

-- an answer taken apart
record Taken (s : List ℕ) (at : ℕ) (b : Block) : Type 0 where
  found : Found
  follows : List ℕ
  end : ℕ
  stands : Stands (drop at s) found follows
  place : end + length follows ≡ length s
  same : b ≡ answer found end

take_apart : {s : List ℕ} {at : ℕ} {b : Block} → BlockAt s at b → Taken s at b
take_apart (a_good {end = e} (ends {r = r} d h)) = record { found = good _; follows = r; end = e; stands = d; place = h; same = refl }
take_apart (an_unexpected_end {end = e} (ends {r = r} d h)) = record { found = unexpected_end; follows = r; end = e; stands = d; place = h; same = refl }
take_apart (a_missing_new_line {end = e} (ends {r = r} d h)) = record { found = missing_new_line; follows = r; end = e; stands = d; place = h; same = refl }
take_apart (a_missing_indent {end = e} (ends {r = r} d h)) = record { found = missing_indent; follows = r; end = e; stands = d; place = h; same = refl }
take_apart (a_missing_termination {end = e} (ends {r = r} d h)) = record { found = missing_termination; follows = r; end = e; stands = d; place = h; same = refl }

pub block_once : {s : List ℕ} {at : ℕ} {b b' : Block} → BlockAt s at b → BlockAt s at b' → b ≡ b'
block_once d e =
    let x = take_apart d in
    let y = take_apart e in
    let o = stands_once x.stands y.stands in
    let p : x.end ≡ y.end = omega (arith, x.place, y.place, ap length o.1) in
    x.same ∙ ap (λ (f : Found). answer f x.end) o.0 ∙ ap (answer y.found) p ∙ sym y.same

-- Where a lexeme ends: not before its start, and within the source.
abbrev pub end_of : Block → ℕ
end_of (Ok e) = e
end_of (Err b) = b.end

end_of_answer : (f : Found) (e : ℕ) → end_of (answer f e) ≡ e
end_of_answer (good ls) e = refl
end_of_answer unexpected_end e = refl
end_of_answer missing_new_line e = refl
end_of_answer missing_indent e = refl
end_of_answer missing_termination e = refl

pub block_end_lem : {s : List ℕ} {at : ℕ} {b : Block} → BlockAt s at b → at ≤ length s → (at ≤ end_of b) × (end_of b ≤ length s)
block_end_lem {s} {at} {b} d h =
    let x = take_apart d in
    let e : end_of b ≡ x.end = ap end_of x.same ∙ end_of_answer x.found x.end in
    let l = stands_length x.stands in
    (omega (arith, e, x.place, l, length-drop at s), omega (arith, e, x.place))

-- Decoding a good block never fails, and a bad one has no text.
pub good_decodes : {s : List ℕ} {at e : ℕ} → BlockAt s at (Ok e) → (t : List ℕ) × BlockText (drop at s) t
good_decodes (a_good (ends (after_header {dash = d} h b) p)) = (text d _, means h b)

pub text_is_good : {s t : List ℕ} {at : ℕ} {b : Block} → BlockText (drop at s) t → BlockAt s at b → (e : ℕ) × (b ≡ Ok e)
text_is_good (means h b) d =
    let x = take_apart d in
    (x.end, x.same ∙ ap (λ (f : Found). answer f x.end) (stands_once x.stands (after_header h b)).0)

-- The reason why number 10 does not occur: the fault of the decoder's contract is none of a good block.
pub never_refused : {s : List ℕ} {at e n : ℕ} → BlockAt s at (Ok e) → Missing (BlockText (drop at s)) n → ⊥
never_refused d (missing h) = h _ (good_decodes d).1

pub text_once : {s t t' : List ℕ} → BlockText s t → BlockText s t' → t ≡ t'
text_once (means {dash = d} {lines = ls} h b) (means {r = r} {dash = e} {lines = ms} g c) =
    let o = header_once h g in
    let q : good ls ≡ good ms = (body_once b (subst (λ (x : List ℕ). Body x (good ms) r) (sym (tail-eq_of_cons-eq o.1)) c)).0 in
    cc (o.0, q)

-- The decoder's answer and every byte that it leaves are determined.
pub decoded_once :
    {s out o o' : List ℕ} {a a' : Decoded} → Decoding (BlockText s) (Missing (BlockText s)) out a o → Decoding (BlockText s) (Missing (BlockText s)) out a' o' →
    (a ≡ a') × (o ≡ o')
decoded_once = missing_once (λ t u m n. text_once m n)

-- A good block has a line: its first line that is not empty.
no_lines : {s line i : List ℕ} → Indent s line i → (i ≡ [] → ⊥) → Other i s → ⊥
no_lines (first Run.end p) h o = h (run_once p Run.end).0
no_lines (first (stop g) p) h o = o.not_content _ (run_split p)
no_lines (first (more {s = t} e d) p) h o = o.not_empty t (ap (λ (b : ℕ). b ∷ t) e)

pub good_lines : {s r : List ℕ} {ls : List (List ℕ)} → Body s (good ls) r → (m : List ℕ) × (ms : List (List ℕ)) × (ls ≡ m ∷ ms)
good_lines (indented d Lines.none (another o p closed)) = absurd (no_lines d cons≢nil o)
good_lines (indented d (empty l) (another o p closed)) = ([], _, refl)
good_lines (indented d (content e q l) (another o p closed)) = (_, _, refl)

-- A text is no longer than its block.
text-length : (d : Bool) (m : List ℕ) (ms : List (List ℕ)) → length (text d (m ∷ ms)) ≤ length (ended (m ∷ ms))
unfolding text
text-length true m ms = omega (arith, ap length (joined_ended m ms), length-append (joined (m ∷ ms)) (0x0A ∷ []))
text-length false m ms = omega (arith, ap length (joined_ended m ms))

body_text : {s r : List ℕ} {ls : List (List ℕ)} (d : Bool) → Body s (good ls) r → length (text d ls) + length r ≤ length s
body_text {ls = ls} d b =
    let g = good_lines b in
    let short = subst (λ (x : List (List ℕ)). length (text d x) ≤ length (ended x)) (sym g.2) (text-length d g.0 g.1) in
    by b short
  where
    by : {s r : List ℕ} {ls : List (List ℕ)} → Body s (good ls) r → length (text d ls) ≤ length (ended ls) → length (text d ls) + length r ≤ length s
    by (indented i l (another o p closed)) h = omega (arith, lines_length l, run_length p)

pub text_short : {s t : List ℕ} {at e : ℕ} → BlockAt s at (Ok e) → BlockText (drop at s) t → length t ≤ e - at
text_short {s} {at = at} (a_good (ends (after_header h b) p)) (means {dash = d} g c) =
    let o = stands_once (after_header h b) (after_header g c) in
    omega (arith, p, ap length o.1, body_text d c, header_length g, length-drop at s)

-- what stands before a header line's LF is no `-`
undashed : {s blanks r : List ℕ} → Run HeaderBlank s blanks (0x0A ∷ r) → Dash s false s
undashed (stop h) = Dash.other {b = 0x0A} (λ e. omega arith)
undashed (more {b = b} p d) = Dash.other {b = b} (λ e. ⊎_elim (λ h. omega arith) (⊎_elim (λ h. omega arith) (λ h. omega arith)) p)

-- With `|||-` the text is exactly the text without `-` less its last LF.
pub with_dash_the_last_feed_goes : {s t : List ℕ} → BlockText (0x2D ∷ s) t → BlockText s (t ++ 0x0A ∷ [])
unfolding text
with_dash_the_last_feed_goes (means (header there p) b) = means (header (undashed p) p) b
with_dash_the_last_feed_goes (means (header (Dash.other h) p) b) = absurd (h refl)

pub without_dash_a_last_feed_stays : {s u : List ℕ} → Dash s false s → BlockText s u → (t : List ℕ) × (u ≡ t ++ 0x0A ∷ []) × BlockText (0x2D ∷ s) t
unfolding text
without_dash_a_last_feed_stays d (means {lines = ls} (header Dash.end p) b) = (joined ls, refl, means (header there p) b)
without_dash_a_last_feed_stays d (means {lines = ls} (header (Dash.other h) p) b) = (joined ls, refl, means (header there p) b)
without_dash_a_last_feed_stays d (means (header there p) b) = absurd (true≢false (dash_once there d).0)

-- Every line of a good block is in its text, in order, the last one included: split at its LFs, the text is the lines again, and
-- without `-` an empty piece after the last LF.
pub data Pieces : List ℕ → List (List ℕ) → Type 0 where
  last : {t l : List ℕ} → Run InLine t l [] → Pieces t (l ∷ [])
  next : {t l u : List ℕ} {ls : List (List ℕ)} → Run InLine t l (0x0A ∷ u) → Pieces u ls → Pieces t (l ∷ ls)

pub pieces_once : {t : List ℕ} {ls ms : List (List ℕ)} → Pieces t ls → Pieces t ms → ls ≡ ms
pieces_once (last p) (last q) = ap (λ (l : List ℕ). l ∷ []) (run_once p q).0
pieces_once (last p) (next q d) = absurd (nil≢cons (run_once p q).1)
pieces_once (next p d) (last q) = absurd (cons≢nil (run_once p q).1)
pieces_once {ms = ms} (next p d) (next {ls = ks} q e) =
    let o = run_once p q in
    let w = pieces_once d (subst (λ (x : List ℕ). Pieces x ks) (sym (tail-eq_of_cons-eq o.1)) e) in
    cc (o.0, w)

-- no line has an LF in it
data Bare : List (List ℕ) → Type 0 where
  none : Bare []
  one : {l : List ℕ} {ls : List (List ℕ)} → Run InLine l l [] → Bare ls → Bare (l ∷ ls)

run_alone : {t l r : List ℕ} → Run InLine t l r → Run InLine l l []
run_alone Run.end = Run.end
run_alone (stop h) = Run.end
run_alone (more p d) = more p (run_alone d)

run_before : {m l : List ℕ} (u : List ℕ) → Run InLine m l [] → Run InLine (l ++ 0x0A ∷ u) l (0x0A ∷ u)
run_before u Run.end = stop (λ h. h refl)
run_before u (more p d) = more p (run_before u d)

lines_bare : {i s r : List ℕ} {ls : List (List ℕ)} → Lines i s ls r → Bare ls
lines_bare Lines.none = Bare.none
lines_bare (empty d) = one Run.end (lines_bare d)
lines_bare (content e q d) = one (run_alone q) (lines_bare d)

pieces_joined : (m : List ℕ) (ms : List (List ℕ)) → Bare (m ∷ ms) → Pieces (joined (m ∷ ms)) (m ∷ ms)
unfolding joined
pieces_joined m [] (one p d) = last p
pieces_joined m (k ∷ ms) (one p d) = next (run_before (joined (k ∷ ms)) p) (pieces_joined k ms d)

pieces_ended : {ls : List (List ℕ)} → Bare ls → Pieces (ended ls) (ls ++ [] ∷ [])
pieces_ended Bare.none = last Run.end
pieces_ended (one {ls = ls} p d) = next (run_before (ended ls) p) (pieces_ended d)

bare_of : {s r : List ℕ} {ls : List (List ℕ)} → Body s (good ls) r → Bare ls
bare_of (indented i l (another o p closed)) = lines_bare l

pub with_dash_every_line_is_there : {s r : List ℕ} {ls : List (List ℕ)} → Body s (good ls) r → Pieces (text true ls) ls
unfolding text
with_dash_every_line_is_there {ls = ls} b =
    let g = good_lines b in
    subst (λ (x : List (List ℕ)). Pieces (joined x) x) (sym g.2) (pieces_joined g.0 g.1 (subst Bare g.2 (bare_of b)))

pub without_dash_every_line_is_there : {s r : List ℕ} {ls : List (List ℕ)} → Body s (good ls) r → Pieces (text false ls) (ls ++ [] ∷ [])
unfolding text
without_dash_every_line_is_there {ls = ls} b =
    let g = good_lines b in
    let e : ended ls ≡ joined ls ++ 0x0A ∷ [] = subst (λ (x : List (List ℕ)). ended x ≡ joined x ++ 0x0A ∷ []) (sym g.2) (sym (joined_ended g.0 g.1)) in
    subst (λ (x : List ℕ). Pieces x (ls ++ [] ∷ [])) e (pieces_ended (bare_of b))
