-- How many children a record asks for, group by group: as many as its fields tell of. And the length of its text.
-- Assumes nothing.
use mathlib.Core.Path.{◌≡◌, refl}
use mathlib.Core.Bool.{true}
use mathlib.Core.List.{List}
use Prim.Native.Nat.{ℕ, ◌+◌}
use native.Mathlib.Omega.{arith}
use lib.ListN.{length}
use borrow.Author.Tests.{leb-true}
use Rattle.grammar.specs.Tags.{IDENTITY, NULL, BOOL, NUMBER, STRING, VARIABLE, ARRAY, ARRAY_COMP, MEMBERS, OBJECT_COMP, EXTENSION, PREFIX, INFIX, ASSERT_EXPR, LOCAL, IMPORT, ERROR, CALL, NAMED_ARGUMENT, INDEX_PART, FUNCTION, IF, SLICE, BIND, NAME_PATTERN, SKIP, ARRAY_PATTERN, OBJECT_PATTERN, PATTERN_FIELD, PARAMETER, FIELD, ASSERT, FOR, IF_CLAUSE, OBJECT_ITERATION}
use Rattle.grammar.specs.Trees.{Field}
use Rattle.grammar.specs.Layout.{unknown, rows as layouts, layout_of, a_span, a_text, a_count, a_flag, a_slice, a_byte, over, Tells, tells}
use Rattle.images.specs.Inner.{unless, method_fine, pick, count_by, sort_by, text_by, fine_by, fines, look, row_of, rows, asks}
use Rattle.images.proofs.PartLaws.{value}
use Rattle.images.proofs.FormLaws.{values, words_of}
use Rattle.images.proofs.FormBack.{among_rows}

abbrev pub Sums : ℕ → Type 0
Sums tag = (fs : List Field) (n : ℕ) → Tells (layout_of tag) fs n
    → ((asks tag (values fs)).fine ≡ true → (asks tag (values fs)).n3 + (asks tag (values fs)).n2 + (asks tag (values fs)).n1 ≡ n) × ((asks tag (values fs)).size ≡ length (words_of fs))

s1 : Sums IDENTITY
unfolding asks row_of rows look count_by sort_by text_by fine_by fines words_of value pick unless method_fine layout_of
s1 fs n (tells (a_byte h (a_span over))) = ((λ f. omega arith), refl)

s2 : Sums NULL
unfolding asks row_of rows look count_by sort_by text_by fine_by fines words_of value pick unless method_fine layout_of
s2 fs n (tells over) = ((λ f. omega arith), refl)

s3 : Sums BOOL
unfolding asks row_of rows look count_by sort_by text_by fine_by fines words_of value pick unless method_fine layout_of
s3 fs n (tells (a_byte h over)) = ((λ f. omega arith), refl)

s4 : Sums NUMBER
unfolding asks row_of rows look count_by sort_by text_by fine_by fines words_of value pick unless method_fine layout_of
s4 fs n (tells a_text) = ((λ f. omega arith), refl)

s5 : Sums STRING
unfolding asks row_of rows look count_by sort_by text_by fine_by fines words_of value pick unless method_fine layout_of
s5 fs n (tells a_text) = ((λ f. omega arith), refl)

s6 : Sums VARIABLE
unfolding asks row_of rows look count_by sort_by text_by fine_by fines words_of value pick unless method_fine layout_of
s6 fs n (tells (a_span a_text)) = ((λ f. omega arith), refl)

s7 : Sums ARRAY
unfolding asks row_of rows look count_by sort_by text_by fine_by fines words_of value pick unless method_fine layout_of
s7 fs n (tells (a_count {m = k} over)) = ((λ f. omega arith), refl)

s8 : Sums ARRAY_COMP
unfolding asks row_of rows look count_by sort_by text_by fine_by fines words_of value pick unless method_fine layout_of
s8 fs n (tells (a_count {m = k} over)) = ((λ f. omega (arith, leb-true 1 k f)), refl)

s9 : Sums MEMBERS
unfolding asks row_of rows look count_by sort_by text_by fine_by fines words_of value pick unless method_fine layout_of
s9 fs n (tells (a_count {m = k} over)) = ((λ f. omega arith), refl)

s10 : Sums OBJECT_COMP
unfolding asks row_of rows look count_by sort_by text_by fine_by fines words_of value pick unless method_fine layout_of
s10 fs n (tells (a_count {m = k} (a_count {m = l} over))) = ((λ f. omega (arith, leb-true 1 l f)), refl)

s11 : Sums EXTENSION
unfolding asks row_of rows look count_by sort_by text_by fine_by fines words_of value pick unless method_fine layout_of
s11 fs n (tells over) = ((λ f. omega arith), refl)

s12 : Sums PREFIX
unfolding asks row_of rows look count_by sort_by text_by fine_by fines words_of value pick unless method_fine layout_of
s12 fs n (tells (a_byte h over)) = ((λ f. omega arith), refl)

s13 : Sums INFIX
unfolding asks row_of rows look count_by sort_by text_by fine_by fines words_of value pick unless method_fine layout_of
s13 fs n (tells (a_byte h (a_span over))) = ((λ f. omega arith), refl)

s14 : Sums ASSERT_EXPR
unfolding asks row_of rows look count_by sort_by text_by fine_by fines words_of value pick unless method_fine layout_of
s14 fs n (tells over) = ((λ f. omega arith), refl)

s15 : Sums LOCAL
unfolding asks row_of rows look count_by sort_by text_by fine_by fines words_of value pick unless method_fine layout_of
s15 fs n (tells (a_count {m = k} over)) = ((λ f. omega arith), refl)

s16 : Sums IMPORT
unfolding asks row_of rows look count_by sort_by text_by fine_by fines words_of value pick unless method_fine layout_of
s16 fs n (tells (a_byte h (a_span over))) = ((λ f. omega arith), refl)

s17 : Sums ERROR
unfolding asks row_of rows look count_by sort_by text_by fine_by fines words_of value pick unless method_fine layout_of
s17 fs n (tells (a_span over)) = ((λ f. omega arith), refl)

s18 : Sums CALL
unfolding asks row_of rows look count_by sort_by text_by fine_by fines words_of value pick unless method_fine layout_of
s18 fs n (tells (a_span (a_byte h (a_count {m = k} (a_count {m = l} over))))) = ((λ f. omega arith), refl)

s19 : Sums NAMED_ARGUMENT
unfolding asks row_of rows look count_by sort_by text_by fine_by fines words_of value pick unless method_fine layout_of
s19 fs n (tells a_text) = ((λ f. omega arith), refl)

s20 : Sums INDEX_PART
unfolding asks row_of rows look count_by sort_by text_by fine_by fines words_of value pick unless method_fine layout_of
s20 fs n (tells (a_span (a_byte h (a_byte g over)))) = ((λ f. omega arith), refl)

s21 : Sums FUNCTION
unfolding asks row_of rows look count_by sort_by text_by fine_by fines words_of value pick unless method_fine layout_of
s21 fs n (tells (a_span (a_count {m = k} over))) = ((λ f. omega arith), refl)

s22 : Sums IF
unfolding asks row_of rows look count_by sort_by text_by fine_by fines words_of value pick unless method_fine layout_of
s22 fs n (tells (a_span (a_flag {b = k} h over))) = ((λ f. omega arith), refl)

s23 : Sums SLICE
unfolding asks row_of rows look count_by sort_by text_by fine_by fines words_of value pick unless method_fine layout_of
s23 fs n (tells (a_slice {b = k} h (a_span (a_span (a_span over))))) = ((λ f. omega arith), refl)

s24 : Sums BIND
unfolding asks row_of rows look count_by sort_by text_by fine_by fines words_of value pick unless method_fine layout_of
s24 fs n (tells (a_byte h (a_count {m = k} over))) = ((λ f. omega arith), refl)

s25 : Sums NAME_PATTERN
unfolding asks row_of rows look count_by sort_by text_by fine_by fines words_of value pick unless method_fine layout_of
s25 fs n (tells (a_span a_text)) = ((λ f. omega arith), refl)

s26 : Sums SKIP
unfolding asks row_of rows look count_by sort_by text_by fine_by fines words_of value pick unless method_fine layout_of
s26 fs n (tells over) = ((λ f. omega arith), refl)

s27 : Sums ARRAY_PATTERN
unfolding asks row_of rows look count_by sort_by text_by fine_by fines words_of value pick unless method_fine layout_of
s27 fs n (tells (a_count {m = k} (a_byte h (a_count {m = l} a_text)))) = ((λ f. omega arith), refl)

s28 : Sums OBJECT_PATTERN
unfolding asks row_of rows look count_by sort_by text_by fine_by fines words_of value pick unless method_fine layout_of
s28 fs n (tells (a_count {m = k} (a_byte h a_text))) = ((λ f. omega arith), refl)

s29 : Sums PATTERN_FIELD
unfolding asks row_of rows look count_by sort_by text_by fine_by fines words_of value pick unless method_fine layout_of
s29 fs n (tells (a_flag {b = k} h (a_flag {b = l} g (a_span a_text)))) = ((λ f. omega arith), refl)

s30 : Sums PARAMETER
unfolding asks row_of rows look count_by sort_by text_by fine_by fines words_of value pick unless method_fine layout_of
s30 fs n (tells (a_flag {b = k} h over)) = ((λ f. omega arith), refl)

s31 : Sums FIELD
unfolding asks row_of rows look count_by sort_by text_by fine_by fines words_of value pick unless method_fine layout_of
s31 fs n (tells (a_span (a_byte h (a_byte g (a_byte i (a_count {m = k} (a_byte j over))))))) = ((λ f. omega arith), refl)

s32 : Sums ASSERT
unfolding asks row_of rows look count_by sort_by text_by fine_by fines words_of value pick unless method_fine layout_of
s32 fs n (tells (a_span (a_flag {b = k} h over))) = ((λ f. omega arith), refl)

s33 : Sums FOR
unfolding asks row_of rows look count_by sort_by text_by fine_by fines words_of value pick unless method_fine layout_of
s33 fs n (tells over) = ((λ f. omega arith), refl)

s34 : Sums IF_CLAUSE
unfolding asks row_of rows look count_by sort_by text_by fine_by fines words_of value pick unless method_fine layout_of
s34 fs n (tells (a_span over)) = ((λ f. omega arith), refl)

s35 : Sums OBJECT_ITERATION
unfolding asks row_of rows look count_by sort_by text_by fine_by fines words_of value pick unless method_fine layout_of
s35 fs n (tells (a_byte h a_text)) = ((λ f. omega arith), refl)

pub sums : (tag : ℕ) → (layout_of tag ≡ unknown → ⊥) → Sums tag
unfolding layout_of layouts
sums tag known =
    among_rows Sums tag layouts
    (s1, (s2, (s3, (s4, (s5, (s6, (s7, (s8, (s9, (s10, (s11, (s12, (s13, (s14, (s15, (s16, (s17, (s18, (s19, (s20, (s21, (s22, (s23, (s24, (s25, (s26, (s27, (s28, (s29, (s30, (s31, (s32, (s33, (s34, (s35, tt)))))))))))))))))))))))))))))))))))
    known
