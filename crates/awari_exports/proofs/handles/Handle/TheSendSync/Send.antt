-- A handle may go to another thread: what it owns names no thread.
use mathlib.Core.Bool.{Bool, true, false}
use mir.Raw.{raw}
use base.Shift.{Keyless}
use denote.Memory.{lone}
use denote.RawPtr.{Ptr}
use denote.Param.Send.{IsSend, owning_send, sendable}
use Rattle.std_alloc.proofs.SendSync.{lies}
use Rattle.std.proofs.Crossing.{frees}
use Rattle.awari_exports.specs.Held.{HeldView}
use Rattle.awari_exports.specs.contracts.held.Held as inner
use Rattle.awari_exports.proofs.held.Held.TheSendSync.{the_send}
use Rattle.awari_exports.specs.Owned.{heap, owned}
use Rattle.awari_exports.specs.contracts.handles.Handle.{the_row, the_type}

owned_keyless : (is_open : Bool) (at : Ptr) (x : HeldView) → Keyless (owned is_open at x)
owned_keyless true at x = (lies inner.the_row the_send at x, frees.frees heap (raw (lone inner.the_row.mir)) at)
owned_keyless false at x = tt

pub send : IsSend the_row
send = owning_send the_type (search sendable, (search sendable, tt)) (λ h. owned_keyless h.is_open h.at h.held) (λ k x w. tt)
