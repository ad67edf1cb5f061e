-- The text of a block in a UTF-8 source is UTF-8: lines are cut at ASCII bytes.
-- Assumes nothing.
use mathlib.Core.Bool.{Bool, true, false}
use mathlib.Core.List.{List, [], ◌∷◌, ◌++◌}
use mathlib.Core.Logic.{inl, inr}
use Prim.Native.Nat.{ℕ, ◌<◌}
use native.Mathlib.Omega.{arith}
use Rattle.strings.specs.Utf8.{Utf8, In, row_00_7F}
use Rattle.strings.specs.Utf8 as unicode
use Rattle.strings.proofs.CharacterLaws.{utf8_append, ascii-rest, ascii_splits}
use Rattle.blocks.specs.Blocks.{Blank, HeaderBlank, InLine, Run, Dash, Header, header, Indent, first, Lines, Last, another, Closing, closed, Found, good, Body, indented, joined, text, BlockText, means}
use Rattle.blocks.specs.Blocks as blocks
use Rattle.blocks.proofs.Runs.{run_split}

-- bytes that are all ASCII, and what follows them
data Ascii : List ℕ → Type 0 where
  none : Ascii []
  one : {b : ℕ} {s : List ℕ} → b < 0x80 → Ascii s → Ascii (b ∷ s)

after_ascii : {p s : List ℕ} → Ascii p → Utf8 (p ++ s) → Utf8 s
after_ascii none u = u
after_ascii (one h a) u = after_ascii a (ascii-rest u h)

run_ascii : {P : ℕ → Type 0} {s run r : List ℕ} → ((b : ℕ) → P b → b < 0x80) → Run P s run r → Ascii run
run_ascii f blocks.Run.end = none
run_ascii f (blocks.Run.stop h) = none
run_ascii f (blocks.Run.more {b} p x) = one (f b p) (run_ascii f x)

after_run : {P : ℕ → Type 0} {s run r : List ℕ} → ((b : ℕ) → P b → b < 0x80) → Run P s run r → Utf8 s → Utf8 r
after_run f x u = after_ascii (run_ascii f x) (rw (run_split x) at u)

blank_ascii : (b : ℕ) → Blank b → b < 0x80
blank_ascii b (inl e) = omega arith
blank_ascii b (inr e) = omega arith

header_ascii : (b : ℕ) → HeaderBlank b → b < 0x80
header_ascii b (inl e) = omega arith
header_ascii b (inr (inl e)) = omega arith
header_ascii b (inr (inr e)) = omega arith

after_dash : {s r : List ℕ} {d : Bool} → Dash s d r → Utf8 s → Utf8 r
after_dash blocks.Dash.there u = ascii-rest u (omega arith)
after_dash (blocks.Dash.other h) u = u
after_dash blocks.Dash.end u = u

indent_ascii : {s line indent : List ℕ} → Indent s line indent → Ascii indent
indent_ascii (first e x) = run_ascii blank_ascii x

-- every line is UTF-8
data Each : List (List ℕ) → Type 0 where
  none : Each []
  more : {l : List ℕ} {ls : List (List ℕ)} → Utf8 l → Each ls → Each (l ∷ ls)

lines_utf8 : {indent s r : List ℕ} {ls : List (List ℕ)} → Ascii indent → Lines indent s ls r → Utf8 s → Each ls
lines_utf8 a blocks.Lines.none u = none
lines_utf8 a (blocks.Lines.empty x) u = more unicode.Utf8.none (lines_utf8 a x (ascii-rest u (omega arith)))
lines_utf8 a (blocks.Lines.content {line = line} e l x) u =
    let parts = ascii_splits line (rw (run_split l) at (after_ascii a (rw e at u))) (omega arith) in
    more parts.0 (lines_utf8 a x parts.1)

feed : {t : List ℕ} → Utf8 t → Utf8 (0x0A ∷ t)
feed u = let h : In 0x00 0x7F 0x0A = omega arith in unicode.Utf8.more (row_00_7F h) u

joined-utf8 : {ls : List (List ℕ)} → Each ls → Utf8 (joined ls)
unfolding joined
joined-utf8 none = unicode.Utf8.none
joined-utf8 (more u none) = u
joined-utf8 (more u (more v e)) = utf8_append u (feed (joined-utf8 (more v e)))

text_of : {ls : List (List ℕ)} (d : Bool) → Each ls → Utf8 (text d ls)
unfolding text
text_of true e = joined-utf8 e
text_of false e = utf8_append (joined-utf8 e) (feed unicode.Utf8.none)

pub text-utf8 : {s t : List ℕ} → BlockText s t → Utf8 s → Utf8 t
text-utf8 (means {dash = d} (header x y) (indented i l (another o b closed))) u =
    let body = ascii-rest (after_run header_ascii y (after_dash x u)) (omega arith) in
    text_of d (lines_utf8 (indent_ascii i) l body)
