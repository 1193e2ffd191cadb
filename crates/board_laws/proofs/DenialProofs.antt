-- A denial is given exactly where nobody answers, and where the ROM is written.
use Rattle.board_prelude.proofs.{nat_tests, cases_Bool, All-nil, All-cons, WideAccess, Reg, Dev, Target, Denial}
use Rattle.board_prelude.proofs.{device_at, Memory, Wide, Port, Part, Reply, Bus, Entry, Setup, is_config_port}
use Rattle.board_prelude.proofs.{config_register, Bytes, denial_of, Decoded, config_port, device_port, port_target_of}
use Rattle.board_prelude.proofs.{is_write, part_at, parts_from, memory_target, memory_denial, memory_answer}
use Rattle.board_prelude.proofs.{part_answer, port_answer, longest_at}
use Rattle.std.proofs.Common.{arith, ℕ, zero, suc, Bool, false, List, Option, sym, subst, inl, inr, ◌==◌, if◌then◌else◌}
use Rattle.std.proofs.Common.{map, All}
use Rattle.board_base.specs.declared.access.Access.{Access}
use Rattle.board_spec.specs.declared.event.Event.TheVariants.{Look as LookAt}
use Rattle.board_laws.specs.DenialLaws.{IsDeniedExactly, DeniedOnBus, DeniedInParts}

-- ---- memory

denied_memory : (setup : Setup) (before : List Entry) (access : Access) → IsDeniedExactly (is_write access.kind)
    (memory_target setup before access) (memory_denial setup before access)
unfolding denial_of
denied_memory setup before access = grind (arith, nat_tests)

-- ---- ports

abbrev IsRight : Decoded → Type 0
IsRight decoded = IsDeniedExactly false decoded.target decoded.denial

right_choice : (test : Bool) (a b : Decoded) → IsRight a → IsRight b → IsRight (if test then a else b)
right_choice x0 a b is other = grind (arith, nat_tests)

right_config : (address : ℕ) (reg : Option Reg) → IsRight (config_port address reg)
right_config address x1 = grind (arith, nat_tests)

right_port : (found : Option Dev) (disk : Bool) (setup : Setup) (bytes : Bytes) (port : ℕ) →
    IsRight (device_port found disk setup bytes port)
right_port x0 disk setup bytes port = grind (arith, nat_tests)

-- ---- replies

abbrev OfBus : (Target → Option Denial → Type 0) → Reply → Type 0
OfBus P (Bus value target denial) = P target denial
OfBus P _ = Unit {0}

pub denied_on_bus : DeniedOnBus
unfolding memory_answer port_answer port_target_of
denied_on_bus setup before (Memory access) value target denial answer =
    subst (OfBus (IsDeniedExactly (is_write access.kind))) (sym answer) (denied_memory setup before access)
denied_on_bus setup before (Wide access) value target denial answer = absurd answer
denied_on_bus setup before (Port access) value target denial answer =
    subst (OfBus (IsDeniedExactly false)) (sym answer)
    (grind (arith, nat_tests, right_choice, is_config_port, right_config, config_register, right_port, device_at))
denied_on_bus setup before (LookAt kind addr smm) value target denial answer = absurd answer
denied_on_bus setup before _ value target denial answer = grind (arith, nat_tests)

abbrev IsRightPart : Bool → Part → Type 0
IsRightPart writes part = IsDeniedExactly writes part.target part.denial

denied_from : (setup : Setup) (before : List Entry) (access : WideAccess) (most addr left : ℕ) →
    All (IsRightPart (is_write access.kind)) (map (part_answer setup before) (parts_from access most addr left))
unfolding parts_from part_answer
denied_from setup before access zero addr left = All-nil (IsRightPart (is_write access.kind))
denied_from setup before access (suc most) addr left =
    elim (cases_Bool (left == 0)) [
      | inl none ↦ rw none (All-nil (IsRightPart (is_write access.kind)))
      | inr some ↦
          rw some (All-cons (IsRightPart (is_write access.kind)) _ _
          (denied_memory setup before (part_at access addr (longest_at addr left)))
          (denied_from setup before access most _ _))
    ]

pub denied_in_parts : DeniedInParts
unfolding memory_answer port_answer
denied_in_parts setup before x2 value parts answer = grind (arith, nat_tests, is_write, denied_from)
