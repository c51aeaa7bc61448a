-- Which events of a history outlive its crashes.
use Rattle.std.specs.Prelude.{Bool, true, false, not, ◌&&◌, ◌||◌, cond, List, [], ◌∷◌, Option, Some, None, unwrap_or}
use Rattle.std.specs.List.{list_any}
use Rattle.mls_model.specs.declared.lanes.LaneKind.TheVariants.{Client, Control}
use Rattle.mls_model.specs.Places.{any_place, all_places}
use Rattle.mls_model.specs.Frames.{Frame, save, crash}
use Rattle.mls_model.specs.Histories.{LaneEvent}

-- a save and a crash count on control lanes alone
abbrev pub is_save_frame : Frame → Bool
is_save_frame save = true
is_save_frame _ = false

abbrev pub is_crash_frame : Frame → Bool
is_crash_frame crash = true
is_crash_frame _ = false

abbrev pub is_save : LaneEvent → Bool
is_save e = elim e.kind [ Client ↦ false | Control ↦ is_save_frame e.frame ]

abbrev pub is_crash : LaneEvent → Bool
is_crash e = elim e.kind [ Client ↦ false | Control ↦ is_crash_frame e.frame ]

-- an event survives what comes after it where every crash there has a save between the event and itself
unfoldable pub survives : List LaneEvent → Bool
survives after = all_places (λ between e. not (is_crash e) || list_any is_save between) [] after

-- the surviving events in order
unfoldable pub surviving : List LaneEvent → List LaneEvent
surviving [] = []
surviving (e ∷ after) = cond (survives after) (e ∷ surviving after) (surviving after)

-- what stood before the last save, and none where there is no save
unfoldable pub last_save : List LaneEvent → Option (List LaneEvent)
last_save [] = None
last_save (e ∷ rest) = elim (last_save rest) [ Some before ↦ Some (e ∷ before) | None ↦ cond (is_save e) (Some []) None ]

-- the events before the last save, and none where there is no save
abbrev pub before_last_save : List LaneEvent → List LaneEvent
before_last_save history = unwrap_or (last_save history) []

-- whether a crash stands behind a save
unfoldable pub crash_after_save : List LaneEvent → Bool
crash_after_save history = any_place (λ before e. is_crash e && list_any is_save before) [] history
