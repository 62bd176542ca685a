-- What is said to a person where a call of the face is not served: our profile.
use Rattle.std.specs.Prelude.{ℕ, List, codes}
use Rattle.drmaa_types.specs.Said.{refusal_text}
use Rattle.drmaa1_face.specs.declared.faults.FaceFault.{FaceFault}
use Rattle.drmaa1_face.specs.declared.faults.FaceFault.TheVariants.{NoActiveSession, AlreadyActive, Refused}

-- why a call of the face is not served
abbrev pub face_text : FaceFault → List ℕ
face_text NoActiveSession = codes "no session is active"
face_text AlreadyActive = codes "a session is active already"
face_text (Refused why) = refusal_text why
