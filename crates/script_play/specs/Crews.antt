-- Who calls, and who plays a line, as the play of a script speaks of them.
use Rattle.script_asks.specs.Plays as plays
use Rattle.script_play.specs.declared.crews.Crew.{Crew}
use Rattle.script_play.specs.declared.crews.Performer.{Performer}
use Rattle.script_play.specs.declared.crews.Performer.TheVariants as performer

abbrev pub crew_meant : Crew → plays.Crew
crew_meant c = record { client = c.client; launcher = c.launcher; reaper = c.reaper }

abbrev pub performer_meant : Performer → plays.Performer
performer_meant (performer.Sets moment) = plays.sets moment
performer_meant (performer.Waits timeout) = plays.waits timeout
performer_meant performer.Client = plays.a_client
performer_meant performer.Launcher = plays.the_launcher
performer_meant performer.Reaper = plays.the_reaper
