use Rattle.call_history.proofs.desks.Desk.ask_for_jobs.Goals as goal

pub returns-in-Err-clause-err : goal.returns-in-Err-clause-err
returns-in-Err-clause-err g c = c.give_up.ensures.jobs c.args.session c.args.filter
