-- The text of the templates of kept jobs, as the room that it leaves is kept beside them: our profile.
use Rattle.std.specs.Prelude.{ℕ, ◌-◌, ◌≤◌, Option, SomeIff}
use Rattle.drmaa_model.specs.Submitting.{most_kept_text}

-- The room that so much text leaves of the most that all kept jobs may have. There is none exactly where it passes that.
abbrev pub IsRoomBeside : ℕ → Option ℕ → Type 0
IsRoomBeside text room = SomeIff room (text ≤ most_kept_text) (most_kept_text - text)
