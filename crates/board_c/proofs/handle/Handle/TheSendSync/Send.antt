-- A handle may go to another thread: what it owns says the same to each.
use mathlib.Core.Bool.{Bool, true, false}
use base.Fml.{Fml}
use base.Shift.{Keyless}
use denote.Struct.Struct.{exits_of}
use denote.Struct.Owning.{shape, fields, to}
use denote.Param.Send.{IsSend, AllSend, owning_send, struct_send, sendable}
use mir.Raw.{raw}
use denote.Memory.{lone}
use Rattle.std.proofs.Crossing.{frees}
use Rattle.std_alloc.proofs.SendSync.{lies, quiet}
use Rattle.board_c.specs.contracts.opened.Opened.{the_row as opened_row}
use Rattle.board_c.proofs.opened.Opened.TheSendSync as opened
use Rattle.board_c.specs.Owned.{owned_if}
use Rattle.board_c.specs.contracts.handle.Handle.{the_row, the_type}

if_open : (y : Bool) (F : Fml) → Keyless F → Keyless (owned_if y F)
if_open true F k = k
if_open false F k = tt

pub send : IsSend the_row
send = let O = the_type in let all : AllSend (fields O) = (search sendable, (search sendable, (search sendable, tt))) in
    owning_send O all
    (λ h. if_open h.full _ (
      lies opened_row opened.the_send h.at h.held,
      frees.frees h.alloc (raw (lone opened_row.mir)) h.at,
    ))
    (λ k. quiet (to O) (exits_of k (fields O)) ((struct_send (shape O) all).leaving k))
