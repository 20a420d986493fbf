use Rattle.std.proofs.Common.{List, ℕ, [], Bor, arith, rules}
use borrow.Author.Tests.{ltb-false, ltb-true}
use Rattle.vectors.proofs.CaseWords.{data_words, key_words, no_case}
use Rattle.vectors.proofs.cases.answer_to.Goals as goal
use Rattle.vectors.proofs.cases.answer_to.Goals.{in_default-via-then-words-lt3, in_default-via-else-words-lt3+then-words-lt4+in_default, in_default-via-else-words-lt3+else-words-lt4+then-words-lt5, in_default-via-else-words-lt3+else-words-lt4+else-words-lt5+then-words-lt6+in_default, in_default-via-else-words-lt3+else-words-lt4+else-words-lt5+else-words-lt6+then-words-lt8, in_default-via-else-words-lt3+else-words-lt4+else-words-lt5+else-words-lt6+else-words-lt8+then-words-lt9+in_default, in_default-via-else-words-lt3+else-words-lt4+else-words-lt5+else-words-lt6+else-words-lt8+else-words-lt9+then-words-lt10, in_default-via-else-words-lt3+else-words-lt4+else-words-lt5+else-words-lt6+else-words-lt8+else-words-lt9+else-words-lt10+then-words-lt11+in_default, in_default-via-else-words-lt3+else-words-lt4+else-words-lt5+else-words-lt6+else-words-lt8+else-words-lt9+else-words-lt10+else-words-lt11}

-- what stands past the last word
abbrev blank : Bor (List ℕ)
blank = record { ref_ptr = (0, 0); now = [] }

pub returns-in-key : goal.returns-in-key
returns-in-key c =
    let k = key_words blank c.args.words.now c.in-key.len_at_least c.in-key.len_below (search rules) in
    search (rules, k)

pub returns-in-data : goal.returns-in-data
returns-in-data c =
    let k = data_words blank c.args.words.now c.in-data.len_at_least c.in-data.len_below (search rules) in
    search (rules, k)

pub returns-in_default : goal.returns-in_default
returns-in_default c =
    let ws = c.args.words.now in
    elim c.in_default.branch [
      | in_default-via-then-words-lt3 w ↦
          no_case blank ws (record { three = λ e. absurd (omega (arith, ltb-true, ltb-false)); five = λ e. absurd (omega (arith, ltb-true, ltb-false)); eight = λ e. absurd (omega (arith, ltb-true, ltb-false)); ten = λ e. absurd (omega (arith, ltb-true, ltb-false)) })
      | in_default-via-else-words-lt3+then-words-lt4+in_default w ↦
          no_case blank ws (record { three = λ _. search rules; five = λ e. absurd (omega (arith, ltb-true, ltb-false)); eight = λ e. absurd (omega (arith, ltb-true, ltb-false)); ten = λ e. absurd (omega (arith, ltb-true, ltb-false)) })
      | in_default-via-else-words-lt3+else-words-lt4+then-words-lt5 w ↦
          no_case blank ws (record { three = λ e. absurd (omega (arith, ltb-true, ltb-false)); five = λ e. absurd (omega (arith, ltb-true, ltb-false)); eight = λ e. absurd (omega (arith, ltb-true, ltb-false)); ten = λ e. absurd (omega (arith, ltb-true, ltb-false)) })
      | in_default-via-else-words-lt3+else-words-lt4+else-words-lt5+then-words-lt6+in_default w ↦
          no_case blank ws (record { three = λ e. absurd (omega (arith, ltb-true, ltb-false)); five = λ _. (search rules, search rules); eight = λ e. absurd (omega (arith, ltb-true, ltb-false)); ten = λ e. absurd (omega (arith, ltb-true, ltb-false)) })
      | in_default-via-else-words-lt3+else-words-lt4+else-words-lt5+else-words-lt6+then-words-lt8 w ↦
          no_case blank ws (record { three = λ e. absurd (omega (arith, ltb-true, ltb-false)); five = λ e. absurd (omega (arith, ltb-true, ltb-false)); eight = λ e. absurd (omega (arith, ltb-true, ltb-false)); ten = λ e. absurd (omega (arith, ltb-true, ltb-false)) })
      | in_default-via-else-words-lt3+else-words-lt4+else-words-lt5+else-words-lt6+else-words-lt8+then-words-lt9+in_default w ↦
          no_case blank ws (record { three = λ e. absurd (omega (arith, ltb-true, ltb-false)); five = λ e. absurd (omega (arith, ltb-true, ltb-false)); eight = λ _. search rules; ten = λ e. absurd (omega (arith, ltb-true, ltb-false)) })
      | in_default-via-else-words-lt3+else-words-lt4+else-words-lt5+else-words-lt6+else-words-lt8+else-words-lt9+then-words-lt10 w ↦
          no_case blank ws (record { three = λ e. absurd (omega (arith, ltb-true, ltb-false)); five = λ e. absurd (omega (arith, ltb-true, ltb-false)); eight = λ e. absurd (omega (arith, ltb-true, ltb-false)); ten = λ e. absurd (omega (arith, ltb-true, ltb-false)) })
      | in_default-via-else-words-lt3+else-words-lt4+else-words-lt5+else-words-lt6+else-words-lt8+else-words-lt9+else-words-lt10+then-words-lt11+in_default w ↦
          no_case blank ws (record { three = λ e. absurd (omega (arith, ltb-true, ltb-false)); five = λ e. absurd (omega (arith, ltb-true, ltb-false)); eight = λ e. absurd (omega (arith, ltb-true, ltb-false)); ten = λ _. search rules })
      | in_default-via-else-words-lt3+else-words-lt4+else-words-lt5+else-words-lt6+else-words-lt8+else-words-lt9+else-words-lt10+else-words-lt11 w ↦
          no_case blank ws (record { three = λ e. absurd (omega (arith, ltb-true, ltb-false)); five = λ e. absurd (omega (arith, ltb-true, ltb-false)); eight = λ e. absurd (omega (arith, ltb-true, ltb-false)); ten = λ e. absurd (omega (arith, ltb-true, ltb-false)) })
    ]
