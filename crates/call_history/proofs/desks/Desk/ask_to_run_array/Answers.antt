use Rattle.call_history.proofs.desks.Desk.ask_to_run_array.Goals as goal

pub returns-in-Err-clause-err : goal.returns-in-Err-clause-err
returns-in-Err-clause-err g c = c.give_up_submission.ensures.array c.args.session c.args.template c.args.indices
