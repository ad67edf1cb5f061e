-- The whole answer: 01, "Numbers handed back". For a setting, a source and the length of the output: which number, with place, detail and
-- length, and every byte of the output.
-- Assumes nothing.
use Rattle.std.specs.Prelude.{◌≡◌, Bool, true, false, cond, List, ◌++◌, ℕ, ◌-◌, ◌≤◌, ◌<◌, leb, length, replicate}
use Rattle.strings.specs.Utf8.{Utf8, ValidTo}
use Rattle.grammar.specs.Numbers.{TREE, SETTING, LONG, ENCODING, LEXEME, ROOM}
use Rattle.grammar.specs.Trees.{Trees}
use Rattle.grammar.specs.Image.{image}
use Rattle.grammar.specs.Lexemes.{Lexeme, start_of, stop_of}
use Rattle.grammar.specs.Reading.{published, Outcome, done, broken, Reads}

-- R4, R5, R25. 01's limits: which settings there are, how long a source may be, how deep phrases may nest; and the prefix power of a setting.
pub record Limits : Type 0 where
  pub valid : ℕ → Bool
  pub size : ℕ
  pub depth : ℕ
  pub prefix : ℕ → ℕ

-- R25. "Settings run to 15 and number 1 moves to above 15."
abbrev pub valid_setting : ℕ → Bool
valid_setting s = leb s 15

-- R19. "setting 8 gives prefix power above 21 and under every suffix; without 8 the present rule stays": "prefix 20"
unfoldable pub prefix_power : ℕ → ℕ
prefix_power s = cond (published s) 22 20

-- R4, R5. "Source: 0 to 65,000 bytes", "Depth: 200"
abbrev pub document_01 : Limits
document_01 = record { valid = valid_setting; size = 65000; depth = 200; prefix = prefix_power }

-- R2. "An answer is number, start, end, detail, length. Unused fields are 0."
pub record Answer : Type 0 where
  pub number : ℕ
  pub start : ℕ
  pub stop : ℕ
  pub detail : ℕ
  pub size : ℕ

-- R2. What is found out about a source before room matters: a refusal, with number, place and detail, or a tree.
pub data Verdict : Type 0 where
  refused : ℕ → ℕ → ℕ → ℕ → Verdict
  tree : Trees → Verdict

-- R31. A phrase that is broken is broken at the current lexeme.
unfoldable pub verdict : Outcome → Verdict
verdict (done ts p xs) = tree ts
verdict (broken n p xs x) = refused n (start_of p xs) (stop_of p xs) x

-- What the lexeme layer tells of a source: `Bad source kind start stop`, its first bad lexeme; `Kept source xs`, its kept lexemes, none bad.
module _ (Bad : List ℕ → ℕ → ℕ → ℕ → Type 0) (Kept : List ℕ → List Lexeme → Type 0) (limits : Limits) where
  -- R30, R32 to R35. "Order: 1, 2, 3, 4; then 5 to 11 as the reading meets them"
  pub data Judged (s : ℕ) (source : List ℕ) : Verdict → Type 0 where
    bad_setting : limits.valid s ≡ false → Judged s source (refused SETTING 0 0 0)
    too_long : limits.valid s ≡ true → limits.size < length source → Judged s source (refused LONG 0 0 0)
    not_utf8 : {n : ℕ} → limits.valid s ≡ true → length source ≤ limits.size → ValidTo source n → n < length source → Judged s source (refused ENCODING n n 0)
    bad_lexeme : {k a e : ℕ} → limits.valid s ≡ true → length source ≤ limits.size → Utf8 source → Bad source k a e → Judged s source (refused LEXEME a e k)
    read : {xs : List Lexeme} {o : Outcome} → limits.valid s ≡ true → length source ≤ limits.size → Utf8 source → Kept source xs
        → Reads (limits.prefix s) s limits.depth xs o → Judged s source (verdict o)

-- R30, R39. "0: tree written; 12: tree exists, image longer than output": number 12 comes last.
unfoldable pub answer : ℕ → Verdict → Answer
answer room (refused n a e x) = record { number = n; start = a; stop = e; detail = x; size = 0 }
answer room (tree ts) = record { number = cond (leb (length (image ts)) room) TREE ROOM; start = 0; stop = 0; detail = 0; size = length (image ts) }

-- R3. "After 0 every lent output .. beyond what was written is zero; after any other it's all zero."
unfoldable pub output : ℕ → Verdict → List ℕ
output room (refused n a e x) = replicate room 0
output room (tree ts) = cond (leb (length (image ts)) room) (image ts ++ replicate (room - length (image ts)) 0) (replicate room 0)

module _ (Bad : List ℕ → ℕ → ℕ → ℕ → Type 0) (Kept : List ℕ → List Lexeme → Type 0) (limits : Limits) where
  -- R1. The answer and the output for a setting, a source and an output of so many bytes.
  pub record Answers (s : ℕ) (source : List ℕ) (room : ℕ) (a : Answer) (out : List ℕ) : Type 0 where
    pub found : Verdict
    pub judged : Judged Bad Kept limits s source found
    pub answered : a ≡ answer room found
    pub written : out ≡ output room found
