-- What a configuration address selects at the configuration data ports.
use Rattle.std.specs.Prelude.{ℕ, ◌+◌, ◌%◌, if◌then◌else◌, Option, Some, None}
use Rattle.board_prelude.specs.{Reg, Setup, function_exists, bus_of, device_of, function_of, register_of}
use Rattle.addr_decode.specs.declared.conf_add.Selected.{Selected}

-- the bus, device, function and register of the address, and the byte that the port adds
abbrev pub selected_at : ℕ → ℕ → Selected
selected_at address port =
    record {
      bus = bus_of address;
      reg = record { dev = device_of address; fun = function_of address; off = register_of address + port % 4 };
    }

-- the register that is selected, where its function exists
abbrev pub existing : Setup → Option Selected → Option Reg
existing setup None = None
existing setup (Some selected) =
    if function_exists setup selected.bus selected.reg.dev selected.reg.fun then Some selected.reg else None
