-- Each call is served by its function.
use Rattle.std.proofs.Common.{◌≤◌, refl, sym, ◌∙◌, ap}
use Rattle.drmaa_model.specs.declared.calls.Call.TheVariants as call
use Rattle.machine_calls.specs.Serving.{spare_of}
use Rattle.machine_calls.proofs.Spares.{after-error}
use Rattle.drmaa_machine.proofs.Askings.{as-asked, unsparing, plain, foreseeing, reporting, used}
use Rattle.drmaa_machine.proofs.performs.perform.Goals as goal

pub returns-in-CreateJobSession-clause-comes : goal.returns-in-CreateJobSession-clause-comes
returns-in-CreateJobSession-clause-comes c = as-asked _ _ _ _ _ _ c.in-CreateJobSession.is c.create.ensures.comes

pub returns-in-CreateJobSession-clause-sparing : goal.returns-in-CreateJobSession-clause-sparing
returns-in-CreateJobSession-clause-sparing c = plain _ _ _ _ _ _ c.in-CreateJobSession.is refl refl c.create.ensures.spare

pub returns-in-CreateReservationSession-clause-comes : goal.returns-in-CreateReservationSession-clause-comes
returns-in-CreateReservationSession-clause-comes c = as-asked _ _ _ _ _ _ c.in-CreateReservationSession.is c.create-in-CreateReservationSession.ensures.comes

pub returns-in-CreateReservationSession-clause-sparing : goal.returns-in-CreateReservationSession-clause-sparing
returns-in-CreateReservationSession-clause-sparing c = plain _ _ _ _ _ _ c.in-CreateReservationSession.is refl refl c.create-in-CreateReservationSession.ensures.spare

pub returns-in-OpenJobSession-clause-comes : goal.returns-in-OpenJobSession-clause-comes
returns-in-OpenJobSession-clause-comes c = as-asked _ _ _ _ _ _ c.in-OpenJobSession.is c.attach.ensures.comes

pub returns-in-OpenJobSession-clause-sparing : goal.returns-in-OpenJobSession-clause-sparing
returns-in-OpenJobSession-clause-sparing c = plain _ _ _ _ _ _ c.in-OpenJobSession.is refl refl c.attach.ensures.spare

pub returns-in-OpenReservationSession-clause-comes : goal.returns-in-OpenReservationSession-clause-comes
returns-in-OpenReservationSession-clause-comes c = as-asked _ _ _ _ _ _ c.in-OpenReservationSession.is c.attach-in-OpenReservationSession.ensures.comes

pub returns-in-OpenReservationSession-clause-sparing : goal.returns-in-OpenReservationSession-clause-sparing
returns-in-OpenReservationSession-clause-sparing c = plain _ _ _ _ _ _ c.in-OpenReservationSession.is refl refl c.attach-in-OpenReservationSession.ensures.spare

pub returns-in-DestroyJobSession-clause-comes : goal.returns-in-DestroyJobSession-clause-comes
returns-in-DestroyJobSession-clause-comes c = as-asked _ _ _ _ _ _ c.in-DestroyJobSession.is c.destroy.ensures.comes

pub returns-in-DestroyJobSession-clause-sparing : goal.returns-in-DestroyJobSession-clause-sparing
returns-in-DestroyJobSession-clause-sparing c = plain _ _ _ _ _ _ c.in-DestroyJobSession.is refl refl c.destroy.ensures.spare

pub returns-in-DestroyReservationSession-clause-comes : goal.returns-in-DestroyReservationSession-clause-comes
returns-in-DestroyReservationSession-clause-comes c = as-asked _ _ _ _ _ _ c.in-DestroyReservationSession.is c.destroy-in-DestroyReservationSession.ensures.comes

pub returns-in-DestroyReservationSession-clause-sparing : goal.returns-in-DestroyReservationSession-clause-sparing
returns-in-DestroyReservationSession-clause-sparing c = plain _ _ _ _ _ _ c.in-DestroyReservationSession.is refl refl c.destroy-in-DestroyReservationSession.ensures.spare

pub returns-in-JobSessionNames-clause-sparing : goal.returns-in-JobSessionNames-clause-sparing
returns-in-JobSessionNames-clause-sparing c = plain _ _ _ _ _ _ c.in-JobSessionNames.is refl refl c.read.ensures.spare

pub returns-in-ReservationSessionNames-clause-sparing : goal.returns-in-ReservationSessionNames-clause-sparing
returns-in-ReservationSessionNames-clause-sparing c = plain _ _ _ _ _ _ c.in-ReservationSessionNames.is refl refl c.read-in-ReservationSessionNames.ensures.spare

pub returns-in-OpenMonitoring-clause-comes : goal.returns-in-OpenMonitoring-clause-comes
returns-in-OpenMonitoring-clause-comes c = as-asked _ _ _ _ _ _ c.in-OpenMonitoring.is c.monitor.ensures.comes

pub returns-in-OpenMonitoring-clause-sparing : goal.returns-in-OpenMonitoring-clause-sparing
returns-in-OpenMonitoring-clause-sparing c = plain _ _ _ _ _ _ c.in-OpenMonitoring.is refl refl c.monitor.ensures.spare

pub returns-in-CloseSession-clause-comes : goal.returns-in-CloseSession-clause-comes
returns-in-CloseSession-clause-comes c = as-asked _ _ _ _ _ _ c.in-CloseSession.is c.close.ensures.comes

pub returns-in-CloseSession-clause-sparing : goal.returns-in-CloseSession-clause-sparing
returns-in-CloseSession-clause-sparing c = plain _ _ _ _ _ _ c.in-CloseSession.is refl refl c.close.ensures.spare

pub returns-in-RunJob-clause-comes : goal.returns-in-RunJob-clause-comes
returns-in-RunJob-clause-comes c = as-asked _ _ _ _ _ _ (c.in-RunJob.is ∙ ap (λ t. call.RunJob c.in-RunJob.session t) (sym c.get.ensures)) c.submit.ensures.comes

pub returns-in-RunJob-clause-sparing : goal.returns-in-RunJob-clause-sparing
returns-in-RunJob-clause-sparing c = unsparing _ _ _ _ _ _ c.in-RunJob.is refl refl refl c.submit.ensures.unspent

pub returns-in-RunBulk-clause-comes : goal.returns-in-RunBulk-clause-comes
returns-in-RunBulk-clause-comes c =
    as-asked _ _ _ _ _ _ (c.in-RunBulk.is ∙ ap (λ t. call.RunBulk c.in-RunBulk.session t c.in-RunBulk.indices) (sym c.get-in-RunBulk.ensures)) c.submit-in-RunBulk.ensures.comes

pub returns-in-RunBulk-clause-sparing : goal.returns-in-RunBulk-clause-sparing
returns-in-RunBulk-clause-sparing c = unsparing _ _ _ _ _ _ c.in-RunBulk.is refl refl refl c.submit-in-RunBulk.ensures.unspent

pub returns-in-GetJobs-clause-sparing : goal.returns-in-GetJobs-clause-sparing
returns-in-GetJobs-clause-sparing c = plain _ _ _ _ _ _ c.in-GetJobs.is refl refl c.read-in-GetJobs.ensures.spare

pub returns-in-GetJobArray-clause-sparing : goal.returns-in-GetJobArray-clause-sparing
returns-in-GetJobArray-clause-sparing c = plain _ _ _ _ _ _ c.in-GetJobArray.is refl refl c.read-in-GetJobArray.ensures.spare

pub returns-in-Control-clause-comes : goal.returns-in-Control-clause-comes
returns-in-Control-clause-comes c = as-asked _ _ _ _ _ _ c.in-Control.is c.control.ensures.comes

pub returns-in-Control-clause-sparing : goal.returns-in-Control-clause-sparing
returns-in-Control-clause-sparing c = foreseeing _ _ _ _ _ _ c.in-Control.is refl c.control.ensures.memory c.control.ensures.spare c.control.ensures.unspent

pub returns-in-Reap-clause-comes : goal.returns-in-Reap-clause-comes
returns-in-Reap-clause-comes c = as-asked _ _ _ _ _ _ c.in-Reap.is c.reap.ensures.comes

pub returns-in-Reap-clause-sparing : goal.returns-in-Reap-clause-sparing
returns-in-Reap-clause-sparing c = plain _ _ _ _ _ _ c.in-Reap.is refl refl c.reap.ensures.spare

pub returns-in-GetState-clause-sparing : goal.returns-in-GetState-clause-sparing
returns-in-GetState-clause-sparing c =
    foreseeing _ _ _ _ _ _ c.in-GetState.is refl (λ has. c.read-in-GetState.ensures.memory c.in-GetState.session c.in-GetState.job c.in-GetState.is) (λ has. used c.args.store.now c.read-in-GetState.new.store c.read-in-GetState.ensures.spare)
    (after-error c.read-in-GetState.result (spare_of c.args.store.now ≤ spare_of c.read-in-GetState.new.store) c.read-in-GetState.ensures.spare)

pub returns-in-GetInfo-clause-sparing : goal.returns-in-GetInfo-clause-sparing
returns-in-GetInfo-clause-sparing c = plain _ _ _ _ _ _ c.in-GetInfo.is refl refl c.read-in-GetInfo.ensures.spare

pub returns-in-Wait-clause-comes : goal.returns-in-Wait-clause-comes
returns-in-Wait-clause-comes c = as-asked _ _ _ _ _ _ c.in-Wait.is c.wait.ensures.comes

pub returns-in-Wait-clause-sparing : goal.returns-in-Wait-clause-sparing
returns-in-Wait-clause-sparing c = plain _ _ _ _ _ _ c.in-Wait.is refl refl c.wait.ensures.spare

pub returns-in-RequestReservation-clause-comes : goal.returns-in-RequestReservation-clause-comes
returns-in-RequestReservation-clause-comes c =
    as-asked _ _ _ _ _ _ (c.in-RequestReservation.is ∙ ap (λ t. call.RequestReservation c.in-RequestReservation.session t) (sym c.get-in-RequestReservation.ensures))
    c.request_reservation.ensures.comes

pub returns-in-RequestReservation-clause-sparing : goal.returns-in-RequestReservation-clause-sparing
returns-in-RequestReservation-clause-sparing c = plain _ _ _ _ _ _ c.in-RequestReservation.is refl refl c.request_reservation.ensures.spare

pub returns-in-GetReservation-clause-sparing : goal.returns-in-GetReservation-clause-sparing
returns-in-GetReservation-clause-sparing c = plain _ _ _ _ _ _ c.in-GetReservation.is refl refl c.read-in-GetReservation.ensures.spare

pub returns-in-GetReservations-clause-sparing : goal.returns-in-GetReservations-clause-sparing
returns-in-GetReservations-clause-sparing c = plain _ _ _ _ _ _ c.in-GetReservations.is refl refl c.read-in-GetReservations.ensures.spare

pub returns-in-EndReservation-clause-comes : goal.returns-in-EndReservation-clause-comes
returns-in-EndReservation-clause-comes c = as-asked _ _ _ _ _ _ c.in-EndReservation.is c.end_reservation.ensures.comes

pub returns-in-EndReservation-clause-sparing : goal.returns-in-EndReservation-clause-sparing
returns-in-EndReservation-clause-sparing c = plain _ _ _ _ _ _ c.in-EndReservation.is refl refl c.end_reservation.ensures.spare

pub returns-in-AllJobs-clause-sparing : goal.returns-in-AllJobs-clause-sparing
returns-in-AllJobs-clause-sparing c = plain _ _ _ _ _ _ c.in-AllJobs.is refl refl c.read-in-AllJobs.ensures.spare

pub returns-in-AllReservations-clause-sparing : goal.returns-in-AllReservations-clause-sparing
returns-in-AllReservations-clause-sparing c = plain _ _ _ _ _ _ c.in-AllReservations.is refl refl c.read-in-AllReservations.ensures.spare

pub returns-in-AllQueues-clause-sparing : goal.returns-in-AllQueues-clause-sparing
returns-in-AllQueues-clause-sparing c = plain _ _ _ _ _ _ c.in-AllQueues.is refl refl c.read-in-AllQueues.ensures.spare

pub returns-in-AllMachines-clause-sparing : goal.returns-in-AllMachines-clause-sparing
returns-in-AllMachines-clause-sparing c = plain _ _ _ _ _ _ c.in-AllMachines.is refl refl c.read-in-AllMachines.ensures.spare

pub returns-in-Register-clause-comes : goal.returns-in-Register-clause-comes
returns-in-Register-clause-comes c = as-asked _ _ _ _ _ _ c.in-Register.is c.register.ensures.comes

pub returns-in-Register-clause-sparing : goal.returns-in-Register-clause-sparing
returns-in-Register-clause-sparing c = plain _ _ _ _ _ _ c.in-Register.is refl refl c.register.ensures.spare

pub returns-in-TakeLaunch-clause-comes : goal.returns-in-TakeLaunch-clause-comes
returns-in-TakeLaunch-clause-comes c = as-asked _ _ _ _ _ _ c.in-TakeLaunch.is c.take_launch.ensures.comes

pub returns-in-TakeLaunch-clause-sparing : goal.returns-in-TakeLaunch-clause-sparing
returns-in-TakeLaunch-clause-sparing c = unsparing _ _ _ _ _ _ c.in-TakeLaunch.is refl refl refl c.take_launch.ensures.unspent

pub returns-in-Started-clause-comes : goal.returns-in-Started-clause-comes
returns-in-Started-clause-comes c = as-asked _ _ _ _ _ _ c.in-Started.is c.report.ensures.comes

pub returns-in-Started-clause-sparing : goal.returns-in-Started-clause-sparing
returns-in-Started-clause-sparing c = reporting _ _ _ _ _ _ c.in-Started.is refl (c.report.ensures.taken refl) (c.report.ensures.promised refl) c.report.ensures.spare

pub returns-in-StartFailed-clause-comes : goal.returns-in-StartFailed-clause-comes
returns-in-StartFailed-clause-comes c = as-asked _ _ _ _ _ _ c.in-StartFailed.is c.report-in-StartFailed.ensures.comes

pub returns-in-StartFailed-clause-sparing : goal.returns-in-StartFailed-clause-sparing
returns-in-StartFailed-clause-sparing c = reporting _ _ _ _ _ _ c.in-StartFailed.is refl (c.report-in-StartFailed.ensures.taken refl) (c.report-in-StartFailed.ensures.promised refl) c.report-in-StartFailed.ensures.spare

pub returns-in-Exited-clause-comes : goal.returns-in-Exited-clause-comes
returns-in-Exited-clause-comes c = as-asked _ _ _ _ _ _ c.in-Exited.is c.report-in-Exited.ensures.comes

pub returns-in-Exited-clause-sparing : goal.returns-in-Exited-clause-sparing
returns-in-Exited-clause-sparing c = reporting _ _ _ _ _ _ c.in-Exited.is refl (c.report-in-Exited.ensures.taken refl) (c.report-in-Exited.ensures.promised refl) c.report-in-Exited.ensures.spare

pub returns-in-ExitUnknown-clause-comes : goal.returns-in-ExitUnknown-clause-comes
returns-in-ExitUnknown-clause-comes c = as-asked _ _ _ _ _ _ c.in-ExitUnknown.is c.report-in-ExitUnknown.ensures.comes

pub returns-in-ExitUnknown-clause-sparing : goal.returns-in-ExitUnknown-clause-sparing
returns-in-ExitUnknown-clause-sparing c = reporting _ _ _ _ _ _ c.in-ExitUnknown.is refl (c.report-in-ExitUnknown.ensures.taken refl) (c.report-in-ExitUnknown.ensures.promised refl) c.report-in-ExitUnknown.ensures.spare

pub returns-in-TakeSignal-clause-comes : goal.returns-in-TakeSignal-clause-comes
returns-in-TakeSignal-clause-comes c = as-asked _ _ _ _ _ _ c.in-TakeSignal.is c.take_signal.ensures.comes

pub returns-in-TakeSignal-clause-sparing : goal.returns-in-TakeSignal-clause-sparing
returns-in-TakeSignal-clause-sparing c = plain _ _ _ _ _ _ c.in-TakeSignal.is refl refl c.take_signal.ensures.spare

pub returns-in-SignalDone-clause-comes : goal.returns-in-SignalDone-clause-comes
returns-in-SignalDone-clause-comes c = as-asked _ _ _ _ _ _ c.in-SignalDone.is c.report-in-SignalDone.ensures.comes

pub returns-in-SignalDone-clause-sparing : goal.returns-in-SignalDone-clause-sparing
returns-in-SignalDone-clause-sparing c = plain _ _ _ _ _ _ c.in-SignalDone.is refl refl c.report-in-SignalDone.ensures.spare

pub returns-in-SignalFailed-clause-comes : goal.returns-in-SignalFailed-clause-comes
returns-in-SignalFailed-clause-comes c = as-asked _ _ _ _ _ _ c.in-SignalFailed.is c.report-in-SignalFailed.ensures.comes

pub returns-in-SignalFailed-clause-sparing : goal.returns-in-SignalFailed-clause-sparing
returns-in-SignalFailed-clause-sparing c = plain _ _ _ _ _ _ c.in-SignalFailed.is refl refl c.report-in-SignalFailed.ensures.spare
