-- `connect` and `disconnect`: what they tell, and the state after them (document 01, "Slots"). Assumes nothing.
use Rattle.std.specs.Prelude.{Bool, Option, Some, None, Result, Ok, Err}
use Rattle.table_view.specs.Told.{Told, done, refused}
use Rattle.peers.specs.Slots.{connecting, leaving}
use Rattle.peers.specs.declared.Identity.{Identity}
use Rattle.peers.specs.declared.Move.{Move}
use Rattle.state.specs.State.{State, after_move}
use Rattle.model.specs.declared.Answer.{Answer}
use Rattle.model.specs.declared.CallError.{CallError}
use Rattle.admission.specs.Admission.{admission, told_if, left_if}

-- what is told of a move, and where there is none
abbrev pub if_moved : Option Move → Told → Told → Told
if_moved (Some m) moved stayed = moved
if_moved None moved stayed = stayed

-- the move of the row that is left to be put, by the answer: none where it is an error
abbrev pub moved_by : Result Answer CallError → Option Move → Option Move
moved_by (Ok a) m = m
moved_by (Err e) m = None

-- the state after a move of a peer that is let in
abbrev pub move_left : State → Identity → Option Move → State
move_left s who m = left_if (admission s who) s (after_move s m)

module _ (s : State) (who : Identity) where
  -- refusal 7 where there is no slot to have
  abbrev pub connect_told : Told
  connect_told = told_if (admission s who) (if_moved (connecting s.row who) done (refused 7))

  abbrev pub connect_left : State
  connect_left = move_left s who (connecting s.row who)

  abbrev pub disconnect_told : Bool → Told
  disconnect_told bonded = told_if (admission s who) done

  abbrev pub disconnect_left : Bool → State
  disconnect_left bonded = move_left s who (leaving s.row who bonded)
