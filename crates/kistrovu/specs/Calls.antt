-- The answers of the calls, out of what was made or the ground that holds. No public promise cites it. Assumes nothing.
use Rattle.std.specs.Prelude.{ℕ, [], Result, Ok, Err}
use Rattle.std.specs.Result.{result_unwrap_or}
use Rattle.verdict.specs.declared.Verdict.{Verdict}
use Rattle.lists.specs.Lists.{padded}
use Rattle.palette.specs.Cards.{most_entries, no_entry}
use Rattle.making.specs.declared.CardEntries.{CardEntries}
use Rattle.grounds.specs.declared.Ground.{Ground}
use Rattle.grounds.specs.Checks.{ground_number, number_of}
use Rattle.kistrovu.specs.declared.VerdictAnswer.{VerdictAnswer}
use Rattle.kistrovu.specs.declared.ModesAnswer.{ModesAnswer}
use Rattle.kistrovu.specs.declared.LogAnswer.{LogAnswer}
use Rattle.kistrovu.specs.declared.Card.{Card}
use Rattle.kistrovu.specs.Answers.{no_verdict}

-- A3: if a ground holds, its number, and zeros for the rest
abbrev pub verdict_given : Result Verdict Ground → VerdictAnswer
verdict_given r = record { number = number_of r; verdict = result_unwrap_or r no_verdict }

abbrev pub modes_given : Result ℕ Ground → ModesAnswer
modes_given r = record { number = number_of r; separators = result_unwrap_or r 0 }

abbrev pub log_given : Result ℕ Ground → LogAnswer
log_given r = record { number = number_of r; joins = result_unwrap_or r 0 }

abbrev pub card_given : Result CardEntries Ground → Card
card_given (Ok made) = record { number = 0; len = made.total; entries = made.entries }
card_given (Err why) = record { number = ground_number why; len = 0; entries = padded most_entries no_entry [] }
