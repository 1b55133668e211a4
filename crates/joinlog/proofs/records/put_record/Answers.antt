-- The part of the log that is written holds the numbers of the record.
use Rattle.std.proofs.Common.{◌+◌, ◌-◌, refl, ◌∙◌, arith}
use Rattle.std.proofs.lemmas.Slice.{put_mid-paste}
use Rattle.std.proofs.lemmas.List.Edits.{paste_all}
use Rattle.joinlog.specs.JoinLog.{numbers_of, record_numbers}
use Rattle.joinlog.proofs.Numbers.{part-written}
use Rattle.joinlog.proofs.records.put_record.Goals as goal

pub returns : goal.returns
returns c =
    let log = c.args.log.now in
    let at = c.args.at in
    let numbers = numbers_of c.args.join in
    put_mid-paste at (at + record_numbers - at) log c.copy_from_slice.new.self numbers record_numbers (c.copy_from_slice.ensures.after ∙ c.into-numbers.ensures) (omega arith) refl
    ∙ paste_all log at numbers record_numbers refl ∙ part-written log numbers at (omega arith)
