-- The attributes and the limits of the standard that this profile does not support.
use Rattle.std.specs.Prelude.{ℕ, Bool, true, List, [], ◌∷◌, map, codes}
use Rattle.std.specs.Option.{option_map_or}
use Rattle.std.specs.Map.{lookup}
use Rattle.std.specs.Str.{bytes_eq}
use Rattle.drmaa_types.specs.declared.refusals.Attribute.{Attribute}
use Rattle.drmaa_types.specs.declared.refusals.Attribute.TheVariants.{CoreFileSize, CpuTime, DataSize, FileSize, OpenFiles, StackSize, VirtualMemory}
use Rattle.drmaa_types.specs.declared.refusals.Refusal.{Refusal}
use Rattle.drmaa_types.specs.declared.refusals.Refusal.TheVariants.{InvalidArgument, UnsupportedAttribute}
use Rattle.drmaa_types.specs.declared.refusals.Which.TheVariants.{ResourceLimits}

-- an attribute that is set is refused
abbrev pub other_test : Attribute → Bool × Refusal
other_test attribute = (true, UnsupportedAttribute attribute)

abbrev pub other_tests : List Attribute → List (Bool × Refusal)
other_tests others = map other_test others

-- the limits beside WALLCLOCK_TIME, by their names
abbrev pub other_limits : List (List ℕ × Attribute)
other_limits =
    (codes "CORE_FILE_SIZE", CoreFileSize) ∷ (codes "CPU_TIME", CpuTime) ∷ (codes "DATA_SIZE", DataSize) ∷
    (codes "FILE_SIZE", FileSize) ∷ (codes "OPEN_FILES", OpenFiles) ∷ (codes "STACK_SIZE", StackSize) ∷
    (codes "VIRTUAL_MEMORY", VirtualMemory) ∷ []

-- why a limit of another name than WALLCLOCK_TIME is refused
abbrev pub other_limit : List ℕ → Refusal
other_limit name = option_map_or UnsupportedAttribute (lookup (bytes_eq name) other_limits) (InvalidArgument ResourceLimits)
