-- What a script that was read says.
use Rattle.std.specs.Prelude.{map}
use Rattle.script_spec.specs.ScriptText.{Script as Said}
use Rattle.scripts.specs.declared.script.Script.{Script}

-- without where it lies in memory
abbrev pub said_of : Script → Said
said_of script = record {
  version = script.version;
  cpus = script.cpus;
  mib = script.mib;
  rom = script.rom;
  disk = script.disk;
  cards = script.cards.items;
  phases = map (λ phase. phase.items) script.phases.items;
}
