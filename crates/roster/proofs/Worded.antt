-- The words of what a line has before its comment.
use Prim.Native.Nat.{ℕ, suc, ◌-◌, ◌≤◌, ◌<◌}
use mathlib.Core.Path.{◌≡◌}
use mathlib.Core.List.{List}
use native.Mathlib.Omega.{arith}
use lib.ListN.{length, take, drop}
use lib.Seq.{length-take-le}
use Rattle.roster.specs.Word.{small_letters, named}
use Rattle.roster.specs.Words.{bare_length, word_start, word_end, words_behind}
use Rattle.roster.specs.Bytes.{bytes_of}
use Rattle.roster.specs.Line.{empty_line, line_for, line_by, line_of}
use Rattle.roster.proofs.Parted.{bare_inside, ends, one_word, no_word, enough}

module _ (s : List ℕ) where
  abbrev bare : List ℕ
  bare = take (bare_length s) s

  pub measured : length bare ≡ bare_length s
  measured = length-take-le (bare_length s) s (bare_inside s)

  abbrev start : ℕ
  start = word_start bare 0

  abbrev end : ℕ
  end = word_end bare start

  pub wordless : bare_length s ≤ start → line_of s ≡ empty_line
  unfolding line_of line_by
  wordless h = rw (no_word bare 0 (length bare) (omega (arith, measured)))

  module _ (h : start < bare_length s) where
    pub ends_behind : start < end
    ends_behind = (ends bare 0 (omega (arith, measured))).0

    pub ends_inside : end ≤ length bare
    ends_inside = (ends bare 0 (omega (arith, measured))).1

    pub worded : line_of s ≡ line_for (named (small_letters (take (end - start) (drop start bare)))) (bytes_of (words_behind bare end))
    unfolding line_of line_by
    worded =
        let l = measured in
        rw (enough (length bare) (suc (length bare)) bare 0 (omega arith) (omega arith) (omega arith))
        (rw (one_word bare 0 (length bare) (omega arith)))

-- step by step
pub ruleset word_steps = (bare_inside, measured, wordless, ends_behind, ends_inside, worded)
