-- The walk over the records of an image: its state, one record more.
-- Assumes nothing.
use mathlib.Core.Path.{◌≡◌, refl, sym, ap, subst, ◌∙◌}
use mathlib.Core.List.{List, [], ◌∷◌, ◌++◌, map, append_assoc, append-nil}
use mathlib.Core.Bool.{true, false}
use Prim.Native.Nat.{ℕ, ◌+◌, ◌-◌, ◌*◌, ◌≤◌, ◌<◌}
use native.Mathlib.Omega.{arith}
use lib.ListN.{drop_of_length-le, length, drop, get_or, set, length-set, length-append}
use lib.Seq.{get_or-set_same, get_or-set_other, set_at, get_or_at}
use Rattle.grammar.specs.Trees.{Field, Trees, tree, ◌⊕◌, count}
use Rattle.grammar.specs.Trees as trees
use Rattle.grammar.specs.Image.{entry, image}
use Rattle.grammar.specs.Records.{Sort, Is, Spans, Obeys}
use Rattle.grammar.specs.Answer.{prefix_power}
use Rattle.grammar.specs.Derived.{Derived}
use Rattle.grammar.proofs.Derived.{whole_exactly, derived_obeys}
use Rattle.grammar.proofs.Spanned.{spanned_obeys, obeys_spanned}
use Rattle.grammar.proofs.ImageLaws.{count-row, image_close, image-length, close_length, entry_length}
use Rattle.images.specs.declared.Fault.{Fault}
use Rattle.images.specs.declared.records.Next.{Next}
use Rattle.images.specs.declared.records.Wrong.{Wrong}
use Rattle.std.proofs.Common.{Ok, Err}
use Rattle.images.specs.Images.{Age, dated_trees, Row, Before, Stands, Accepted, Refused}
use Rattle.images.specs.Images as images
use Rattle.images.specs.Inner.{Chain, Dating, State, Stepped, age_code, refusal_at, Whole, roots, is_a, sort_of, look}
use Rattle.strings.proofs.Stores.{drop-next}
use Rattle.images.proofs.StepLaws.{row_age}
use Rattle.images.proofs.EntryLaws.{entry_there}
use Rattle.images.proofs.RowLaws.{records-row, image_more, roots-row, tags, row-sorts, obeys_sorts, tags_dated}
use Rattle.images.proofs.LinkLaws.{links-length, links_more, Single, single}
use Rattle.images.proofs.RootLaws.{no_true}
use Rattle.images.proofs.FormLaws.{sort_at, numbered}
use Rattle.images.proofs.FitLaws.{is_of, of_is}

pub record Walking (bytes before array : List ℕ) (at n standing age : ℕ) : Type 0 where
  pub state : State bytes array at n standing age
  pub long : length array ≡ length before
  pub within : at ≤ length bytes

none_row : (age : Age) → Row age trees.none
unfolding dated_trees
none_row age = record { sorts = []; obeys = Obeys.none }

pub starts : (bytes array : List ℕ) → Walking bytes array array 0 0 0 0
unfolding image roots images.records count images.links
starts bytes array = record {
  state = record {
    ts = trees.none;
    dating = Dating.undated none_row;
    split = refl;
    place = refl;
    number = refl;
    opened = refl;
    chain = Chain.none;
    rest = array;
    stored = refl;
  };
  long = refl;
  within = omega arith;
}

-- Three bytes to a record at least.
pub records-image : (ts : Trees) → images.records ts * 3 ≤ length (image ts)
unfolding images.records
records-image trees.none = omega arith
records-image (trees.node tag fields children ts) = omega (arith, image-length tag fields children ts, records-image children, records-image ts)

-- Stores behind the records that a chain goes over keep it.
chain_kept : {bytes array : List ℕ} {m : ℕ} {tags : List ℕ} (i v : ℕ) → m * 2 ≤ i → Chain bytes array m tags → Chain bytes (set array i v) m tags
chain_kept i v h Chain.none = Chain.none
chain_kept {bytes} {array} i v h (Chain.root {m} {tags} a b l c) =
    let o = get_or-set_other array i (m * 2) v 0 (λ e. omega arith) in
    let f = get_or-set_other array i (m * 2 + 1) v 0 (λ e. omega arith) in
    subst (λ (k : ℕ). Chain bytes (set array i v) (m + 1) (get_or bytes k 0 ∷ tags)) o
    (Chain.root {m = m} (omega (arith, length-set array i v)) (omega (arith, o)) (omega (arith, f))
    (subst (λ (k : ℕ). Chain bytes (set array i v) k tags) (sym f) (chain_kept i v (omega arith) c)))

more_records : (n : ℕ) (us cs : Trees) (tag : ℕ) (fields : List Field) → n ≡ images.records (us ⊕ cs) → n + 1 ≡ images.records (us ⊕ tree tag fields cs)
unfolding images.records
more_records n us cs tag fields q = omega (arith, records-row us cs, records-row us (tree tag fields cs))

one_more : (us cs : Trees) (tag : ℕ) (fields : List Field) → count us + 1 ≡ count (us ⊕ tree tag fields cs)
unfolding count
one_more us cs tag fields = omega (arith, count-row us (tree tag fields cs))

-- The first two of what is behind the links are stored over.
two_stores : (l r : List ℕ) (i x y : ℕ) → length l ≡ i → i + 1 < length (l ++ r) → set (set (l ++ r) i x) (i + 1) y ≡ (l ++ x ∷ y ∷ []) ++ drop 2 r
two_stores l [] i x y e h = absurd (omega (arith, length-append l []))
two_stores l (a ∷ []) i x y e h = absurd (omega (arith, length-append l (a ∷ [])))
two_stores l (a ∷ b ∷ r) i x y e h =
    let k : length (l ++ x ∷ []) ≡ i + 1 = omega (arith, length-append l (x ∷ [])) in
    ap (λ (w : List ℕ). set w (i + 1) y) (set_at l a (b ∷ r) x i e ∙ sym (append_assoc l (x ∷ []) (b ∷ r))) ∙ set_at (l ++ x ∷ []) b r y (i + 1) k
    ∙ append_assoc l (x ∷ []) (y ∷ r) ∙ sym (append_assoc l (x ∷ y ∷ []) r)

-- A root more.
root_more : {bytes array : List ℕ} {n at first : ℕ} {tags : List ℕ} → n * 2 + 1 < length array → at < length bytes → first ≤ n → Chain bytes array first tags
    → Chain bytes (set (set array (n * 2) at) (n * 2 + 1) first) (n + 1) (get_or bytes at 0 ∷ tags)
root_more {bytes} {array} {n} {at} {first} {tags} room inside h c =
    let array' = set (set array (n * 2) at) (n * 2 + 1) first in
    let l1 = length-set array (n * 2) at in
    let l2 = length-set (set array (n * 2) at) (n * 2 + 1) first in
    let o : get_or array' (n * 2) 0 ≡ at = get_or-set_other (set array (n * 2) at) (n * 2 + 1) (n * 2) first 0 (λ e. omega arith) ∙ get_or-set_same array (n * 2) at 0 (omega arith) in
    let f : get_or array' (n * 2 + 1) 0 ≡ first = get_or-set_same (set array (n * 2) at) (n * 2 + 1) first 0 (omega (arith, l1)) in
    subst (λ (k : ℕ). Chain bytes array' (n + 1) (get_or bytes k 0 ∷ tags)) o
    (Chain.root {m = n} (omega (arith, l1, l2)) (omega (arith, o)) (omega (arith, f))
    (subst (λ (k : ℕ). Chain bytes array' k tags) (sym f) (chain_kept (n * 2 + 1) first (omega arith) (chain_kept (n * 2) at (omega arith) c))))

tree-roots : (us cs : Trees) (tag : ℕ) (fields : List Field) → tag ∷ roots us [] ≡ roots (us ⊕ tree tag fields cs) []
unfolding roots
tree-roots us cs tag fields = sym (roots-row us (tree tag fields cs) [])

module _ {bytes before array : List ℕ} {at n standing age : ℕ} (w : Walking bytes before array at n standing age) (inside : at < length bytes) (room : n * 2 + 1 < length array) where
  pub goes_on : {x : Next} → Stepped bytes array at w.state.ts (Ok x)
      → Walking bytes before (set (set array (n * 2) at) (n * 2 + 1) x.first) x.end (n + 1) x.standing (age_code x.age)
  goes_on {x} (Stepped.next tag fields us children whole there ends is_first op dating chain) =
      let s = w.state in
      let ts' = us ⊕ tree tag fields children in
      let im : image ts' ≡ image s.ts ++ entry tag fields = image_more us children tag fields ∙ ap (λ (t : Trees). image t ++ entry tag fields) (sym whole) in
      let e = entry_there bytes at tag fields (drop x.end bytes) (omega arith) there in
      let rr = records-row us children in
      let rn = ap images.records whole in
      let nr : n + 1 ≡ images.records ts' = more_records n us children tag fields (s.number ∙ rn) in
      let here : array ≡ images.links 0 0 (us ⊕ children) ++ s.rest = s.stored ∙ ap (λ (t : Trees). images.links 0 0 t ++ s.rest) whole in
      let ll : length (images.links 0 0 (us ⊕ children)) ≡ n * 2 = links-length 0 0 (us ⊕ children) ∙ ap (λ (i : ℕ). i * 2) (sym (s.number ∙ rn)) in
      let array' = set (set array (n * 2) at) (n * 2 + 1) x.first in
      let st : array' ≡ images.links 0 0 ts' ++ drop 2 s.rest =
      ap (λ (a : List ℕ). set (set a (n * 2) at) (n * 2 + 1) x.first) here
      ∙ two_stores (images.links 0 0 (us ⊕ children)) s.rest (n * 2) at x.first ll (subst (λ (a : List ℕ). n * 2 + 1 < length a) here room)
      ∙ ap (λ (i : ℕ). (images.links 0 0 (us ⊕ children) ++ i ∷ x.first ∷ []) ++ drop 2 s.rest) (s.place ∙ ap (λ (t : Trees). length (image t)) whole)
      ∙ ap (λ (i : ℕ). (images.links 0 0 (us ⊕ children) ++ length (image (us ⊕ children)) ∷ i ∷ []) ++ drop 2 s.rest) is_first
      ∙ ap (λ (l : List ℕ). l ++ drop 2 s.rest) (sym (links_more us children tag fields)) in
      record {
        state = record {
          ts = ts';
          dating = dating;
          split = s.split ∙ ap (λ (l : List ℕ). image s.ts ++ l) there ∙ sym (append_assoc (image s.ts) (entry tag fields) (drop x.end bytes)) ∙ ap (λ (l : List ℕ). l ++ drop x.end bytes) (sym im);
          place = omega (arith, ends, s.place, ap length im, length-append (image s.ts) (entry tag fields));
          number = nr;
          opened = op ∙ one_more us children tag fields;
          chain = subst (λ (l : List ℕ). Chain bytes array' (n + 1) l) (ap (λ (i : ℕ). i ∷ roots us []) (sym e.tagged) ∙ tree-roots us children tag fields) (root_more room inside (omega (arith, is_first, s.number, rn, rr)) chain);
          rest = drop 2 s.rest;
          stored = st;
        };
        long = length-set (set array (n * 2) at) (n * 2 + 1) x.first ∙ length-set array (n * 2) at ∙ w.long;
        within = omega (arith, e.within, ends, entry_length tag fields);
      }

-- ── Refusals ──────────────────────────────────────────────────────────────────────────────────────

pub before_of : {bytes array : List ℕ} {at n standing age : ℕ} (s : State bytes array at n standing age) → Before bytes s.ts (drop at bytes)
before_of s = record { age = _; row = row_age 0 0 s.dating; split = s.split }

next_byte : {bytes array : List ℕ} {at n standing age : ℕ} (s : State bytes array at n standing age) → at < length bytes → Before bytes s.ts (get_or bytes at 0 ∷ drop (at + 1) bytes)
next_byte {bytes} {at = at} s h = subst (λ (r : List ℕ). Before bytes s.ts r) (drop-next bytes at h) (before_of s)

-- where no record can stand, that is refused
pub refusal : {bytes array : List ℕ} {at n standing age : ℕ} (s : State bytes array at n standing age) → at < length bytes → (wrong : Wrong) → Stepped bytes array at s.ts (Err wrong)
    → Refused bytes (Err (refusal_at wrong at))
refusal {bytes} {at = at} s h _ (Stepped.unknown e) = subst (λ (i : ℕ). Refused bytes (Err (Fault.Unknown i))) (sym s.place) (Refused.unknown (next_byte s h) e)
refusal {bytes} {at = at} s h _ (Stepped.malformed k n) =
    subst (λ (i : ℕ). Refused bytes (Err (Fault.Malformed i))) (sym s.place)
    (Refused.malformed (next_byte s h) k (λ m x. n m (subst (λ (r : List ℕ). Stands s.ts r (get_or bytes at 0) m) (sym (drop-next bytes at h)) x)))
refusal {bytes} {at = at} s h _ (Stepped.missing x l) = subst (λ (i : ℕ). Refused bytes (Err (Fault.Children i))) (sym s.place) (Refused.missing (before_of s) x l)
refusal {bytes} {at = at} s h _ (Stepped.underived x l n) = subst (λ (i : ℕ). Refused bytes (Err (Fault.Underived i))) (sym s.place) (Refused.underived (before_of s) x l n)

-- ── The end ───────────────────────────────────────────────────────────────────────────────────────

all_taken : (bytes : List ℕ) (at : ℕ) → length bytes ≤ at → drop at bytes ≡ []
all_taken bytes at h = drop_of_length-le bytes h

module _ {bytes array : List ℕ} {at n standing age : ℕ} (s : State bytes array at n standing age) (over : length bytes ≤ at) (within : at ≤ length bytes) where
  at_last : Before bytes s.ts []
  at_last = subst (λ (r : List ℕ). Before bytes s.ts r) (all_taken bytes at over) (before_of s)

  pub leaves_roots : (standing ≡ 1 → ⊥) → Refused bytes (Err (Fault.Children at))
  leaves_roots n = let e : length bytes ≡ at = omega arith in subst (λ (i : ℕ). Refused bytes (Err (Fault.Children i))) e (Refused.left_over at_last (λ c. n (s.opened ∙ c)))

  module _ (one : standing ≡ 1) where
    pub root : Single s.ts
    root = single s.ts (sym s.opened ∙ one)

    whole-image : bytes ≡ image s.ts
    whole-image = at_last.split ∙ append-nil (image s.ts)

    pub last_offset : get_or array (n * 2 - 2) 0 ≡ length (image root.children)
    unfolding ◌⊕◌ images.records
    last_offset =
        let r = root in
        let l = links_more trees.none r.children r.tag r.fields in
        let e : array ≡ images.links 0 0 r.children ++ (length (image r.children) ∷ 0 ∷ s.rest) =
        s.stored ∙ ap (λ (t : Trees). images.links 0 0 t ++ s.rest) r.whole ∙ ap (λ (w : List ℕ). w ++ s.rest) l ∙ append_assoc (images.links 0 0 r.children) (length (image r.children) ∷ 0 ∷ []) s.rest in
        let k : n * 2 - 2 ≡ length (images.links 0 0 r.children) = omega (arith, links-length 0 0 r.children, s.number, ap images.records r.whole) in
        ap (λ (w : List ℕ). get_or w (n * 2 - 2) 0) e ∙ get_or_at (images.links 0 0 r.children) (length (image r.children)) (0 ∷ s.rest) 0 (n * 2 - 2) (sym k)

    pub last_tag : get_or bytes (length (image root.children)) 0 ≡ root.tag
    unfolding entry
    last_tag =
        let r = root in
        let e = whole-image ∙ ap image r.whole ∙ image_close r.tag r.fields r.children in
        ap (λ (w : List ℕ). get_or w (length (image r.children)) 0) e ∙ get_or_at (image r.children) r.tag _ 0 (length (image r.children)) refl

    one_sort : map sort_of (tags s.ts) ≡ sort_of root.tag ∷ []
    unfolding tags
    one_sort = ap (λ (t : Trees). map sort_of (tags t)) root.whole

    whole_row : Obeys Spans.forward (sort_of root.tag ∷ []) (dated_trees at_last.age s.ts)
    whole_row = subst (λ (σs : List Sort). Obeys Spans.forward σs (dated_trees at_last.age s.ts)) (row-sorts at_last.age s.ts at_last.row ∙ one_sort) at_last.row.obeys

    pub accepts : is_a root.tag 0 ≡ true → Accepted bytes s.ts
    unfolding sort_at look numbered
    accepts e =
        let x = (whole_exactly (prefix_power 7) (dated_trees at_last.age s.ts)).0 (sort_of root.tag, is_of root.tag 0 e, whole_row) in
        record { age = at_last.age; derived = x.0; spanned = x.1; written = whole-image }

    head_sort : {σ τ : Sort} → ◌≡◌ {A = List Sort} (σ ∷ []) (τ ∷ []) → σ ≡ τ
    head_sort {σ} e = ap first e
      where
        first : List Sort → Sort
        first [] = σ
        first (x ∷ xs) = x

    is_expression : Derived (prefix_power 7) 7 (dated_trees at_last.age s.ts) → is_a root.tag 0 ≡ true
    unfolding sort_at look numbered
    is_expression d =
        let x = derived_obeys d in
        let f = spanned_obeys x.2 (obeys_spanned whole_row) in
        let q = head_sort (obeys_sorts f ∙ ap (map sort_of) (tags_dated at_last.age s.ts) ∙ one_sort) in
        of_is root.tag 0 (omega arith) (subst (λ (σ : Sort). Is σ Sort.expression) q x.1)

    pub refuses_root : is_a root.tag 0 ≡ false → Refused bytes (Err (Fault.Underived (length (image root.children))))
    refuses_root e =
        let r = root in
        let b : Before bytes (tree r.tag r.fields r.children) [] = record {
          age = at_last.age;
          row = subst (λ (t : Trees). Row at_last.age t) r.whole at_last.row;
          split = at_last.split ∙ ap (λ (t : Trees). image t ++ []) r.whole;
        } in
        Refused.lone_root b (λ d. no_true (is_expression (subst (λ (t : Trees). Derived (prefix_power 7) 7 (dated_trees at_last.age t)) (sym r.whole) d)) e)

-- ── Numbers of the walk ───────────────────────────────────────────────────────────────────────────

pub next_longer : {bytes array : List ℕ} {at : ℕ} {x : Next} {ts : Trees} → Stepped bytes array at ts (Ok x) → at + 3 ≤ x.end
next_longer (Stepped.next tag fields us children w t ends f op d c) = omega (arith, ends, entry_length tag fields)

pub room : {bytes before array : List ℕ} {at n standing age : ℕ} {x : Next} (w : Walking bytes before array at n standing age) → at < length bytes
    → images.needed bytes ≤ length before → Stepped bytes array at w.state.ts (Ok x) → n * 2 + 1 < length array
room w h need x =
    let g = longer w h x in
    omega (arith, w.long, w.state.number, w.state.place, records-image w.state.ts, g)
  where
    longer : {bytes before array : List ℕ} {at n standing age : ℕ} {x : Next} (w : Walking bytes before array at n standing age) → at < length bytes
        → Stepped bytes array at w.state.ts (Ok x) → at + 3 ≤ length bytes
    longer {bytes} {at = at} w h (Stepped.next {x = x} tag fields us children e there ends f op d c) =
        let y = entry_there bytes at tag fields (drop x.end bytes) (omega arith) there in omega (arith, y.within)

pub count-records : (ts : Trees) → count ts ≤ images.records ts
unfolding count images.records
count-records trees.none = omega arith
count-records (trees.node tag fields children ts) = omega (arith, count-records ts)

-- ── The whole answer of the walk ──────────────────────────────────────────────────────────────────

module _ {bytes before array : List ℕ} {at n standing age : ℕ} (w : Walking bytes before array at n standing age) (over : length bytes ≤ at) (one : standing ≡ 1) where
  pub some_record : 1 ≤ n
  some_record = omega (arith, w.state.opened, w.state.number, count-records w.state.ts)

  pub records_fit : n * 2 ≤ length array
  records_fit = omega (arith, ap length w.state.stored, length-append (images.links 0 0 w.state.ts) w.state.rest, links-length 0 0 w.state.ts, w.state.number)

  pub last_inside : get_or array (n * 2 - 2) 0 < length bytes
  last_inside =
      let r = root w.state over w.within one in
      omega (arith, last_offset w.state over w.within one, w.state.place, ap (λ (t : Trees). length (image t)) r.whole, close_length r.tag r.fields r.children, w.within)

  tag_is : get_or bytes (get_or array (n * 2 - 2) 0) 0 ≡ (root w.state over w.within one).tag
  tag_is = ap (λ (i : ℕ). get_or bytes i 0) (last_offset w.state over w.within one) ∙ last_tag w.state over w.within one

  pub ends_refused : is_a (get_or bytes (get_or array (n * 2 - 2) 0) 0) 0 ≡ false → Whole bytes (length before) (Err (Fault.Underived (get_or array (n * 2 - 2) 0))) array
  ends_refused e =
      Whole.refused w.long (subst (λ (i : ℕ). Refused bytes (Err (Fault.Underived i))) (sym (last_offset w.state over w.within one))
      (refuses_root w.state over w.within one (sym (ap (λ (t : ℕ). is_a t 0) tag_is) ∙ e)))

  pub ends_accepted : is_a (get_or bytes (get_or array (n * 2 - 2) 0) 0) 0 ≡ true → Whole bytes (length before) (Ok n) array
  ends_accepted e =
      let s = w.state in
      subst (λ (i : ℕ). Whole bytes (length before) (Ok i) array) (sym s.number)
      (Whole.accepted s.rest (accepts s over w.within one (sym (ap (λ (t : ℕ). is_a t 0) tag_is) ∙ e)) s.stored w.long)
