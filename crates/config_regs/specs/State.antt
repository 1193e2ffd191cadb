-- The state of the 82371SB's registers on which the memory map does not depend as bytes: the routes of the PCI
-- interrupts, and the IDE function.
use Rattle.std.specs.Prelude.{ℕ, List, ◌++◌}
use Rattle.byte_fields.specs.Fields.{Reading, gives, ◌>>=◌}
use Rattle.south_bridge.specs.RoutingState.{IsRoutes, routes_bytes, routes_fields}
use Rattle.south_bridge.specs.IdeState.{IsIde, ide_bytes, ide_fields}
use Rattle.config_regs.specs.declared.south.South.{South}

pub record IsSouth (south : South) : Type 0 where
  pub routes : IsRoutes south.routes
  pub ide : IsIde south.ide

abbrev pub south_bytes : South → List ℕ
south_bytes south = routes_bytes south.routes ++ ide_bytes south.ide

unfoldable pub south_fields : Reading South
south_fields = do
  routes ← routes_fields
  ide ← ide_fields
  gives (record { routes = routes; ide = ide })
