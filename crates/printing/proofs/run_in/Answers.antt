-- What `runner::run` promises; on memory that fits, its number is the file's.
use Rattle.std.proofs.Common.{◌∙◌, sym}
use Rattle.runner.specs.TakeRuns.{most_steps, ran_of}
use Rattle.runner.proofs.RunRefusals.{ran-number, number-same}
use Rattle.printing.proofs.run_in.Goals as goal

pub returns-clause-by_file : goal.returns-clause-by_file
returns-clause-by_file c =
    let a = c.args in
    let r = c.run in
    sym (number-same r.result)
    ∙ ran-number a.file.now most_steps a.arena.now a.table.now a.answers.now c.requires.sizes c.requires.answers (ran_of r.result)
    r.new.arena r.new.table r.new.answers r.ensures.ran
