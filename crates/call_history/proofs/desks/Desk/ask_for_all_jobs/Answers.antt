use Rattle.call_history.proofs.desks.Desk.ask_for_all_jobs.Goals as goal

pub returns-in-Err-clause-err : goal.returns-in-Err-clause-err
returns-in-Err-clause-err g c = c.give_up.ensures.all_jobs c.args.session c.args.filter
