-- What is known of the files that a command has read.
use Rattle.std.specs.Prelude.{ℕ, ◌≡◌, ◌≤◌, ◌++◌, List, [], ◌∷◌, length, reverse, Option, Some, None}
use Rattle.board_spec.specs.Setup.{Setup, IsRomSize, IsDiskSize, IsDisk}
use Rattle.script_spec.specs.ScriptText.{Script as Said, IsScriptText}
use Rattle.script_spec.specs.ScriptRange.{IsInRangeScript}
use Rattle.board_image.specs.ImageBytes.{Saved, IsImage, image_bytes}
use Rattle.script_spec.specs.Boards.{fitted}
use Rattle.command_words.specs.Words.{Command, Make, Resume}
use Rattle.command_files.specs.declared.status.Which.{Which}
use Rattle.command_files.specs.declared.status.Which.TheVariants.{Script, Rom, Disk, Log, Image, Input}
use Rattle.command_files.specs.Table.{files_of, name_in_words, limit_of}

-- the bytes of each file, by its name
abbrev pub Files : Type 0
Files = List ℕ → List ℕ

-- what the files say that were read so far
pub record Known : Type 0 where
  pub script : Option Said
  pub rom : List ℕ
  pub disk : Option (List ℕ)
  pub log : List ℕ
  pub image : Option Saved
  pub input : List ℕ

abbrev pub nothing_known : Known
nothing_known = record { script = None; rom = []; disk = None; log = []; image = None; input = [] }

-- ---- the name of a file

abbrev pub rom_name : Option Said → Option (List ℕ)
rom_name None = None
rom_name (Some script) = Some script.rom

abbrev pub disk_name : Option Said → Option (List ℕ)
disk_name None = None
disk_name (Some script) = script.disk

-- it stands in the words, or in the script that was read. None where there is no such file
abbrev pub file_name : Command → Known → Which → Option (List ℕ)
file_name command known Rom = rom_name known.script
file_name command known Disk = disk_name known.script
file_name command known which = name_in_words command which

-- ---- one file

-- bytes are a good file of their kind, and this is known then. What a log says is asked once all is read
abbrev pub Learns : Known → Which → (bytes : List ℕ) → Known → Type 0
Learns before Script bytes now =
    (script : Said) × IsScriptText bytes script × (now ≡ record before { script = Some script })
Learns before Rom bytes now = IsRomSize (length bytes) × (now ≡ record before { rom = bytes })
Learns before Disk bytes now = IsDiskSize (length bytes) × (now ≡ record before { disk = Some bytes })
Learns before Log bytes now = now ≡ record before { log = bytes }
Learns before Image bytes now =
    (image : Saved) × IsImage image.setup image.steps × (bytes ≡ image_bytes image.setup image.steps)
    × (now ≡ record before { image = Some image })
Learns before Input bytes now = now ≡ record before { input = bytes }

-- a file of this name is within its limit and good; one without a name is passed over
abbrev pub Passes : Files → Known → Which → (name : Option (List ℕ)) → Known → Type 0
Passes files before which None now = now ≡ before
Passes files before which (Some name) now = (length (files name) ≤ limit_of which)
    × Learns before which (files name) now

-- ---- one file after another

-- these files, the latest first, were read one after the other, and this is known
abbrev pub AreReadAs : Command → Files → List Which → Known → Type 0
AreReadAs command files [] known = known ≡ nothing_known
AreReadAs command files (which ∷ before) known =
    (earlier : Known) × AreReadAs command files before earlier
    × Passes files earlier which (file_name command earlier which) known

-- all files of a command were read
abbrev pub AllRead : Command → Files → Known → Type 0
AllRead command files known = AreReadAs command files (reverse (files_of command)) known

-- a command comes to a file: the files before it were read. This is known then, and this is its name
pub record ComesTo (command : Command) (files : Files) (which : Which) (known : Known) (name : List ℕ) : Type 0 where
  pub before : List Which
  pub later : List Which
  pub place : files_of command ≡ reverse before ++ which ∷ later
  pub read : AreReadAs command files before known
  pub named : file_name command known which ≡ Some name

-- ---- what was read

-- a script was read, of which this holds
abbrev pub OfScript : Known → (Said → Type 0) → Type 0
OfScript known P = (script : Said) × (known.script ≡ Some script) × P script

-- an image was read, of which this holds
abbrev pub OfImage : Known → (Saved → Type 0) → Type 0
OfImage known P = (image : Saved) × (known.image ≡ Some image) × P image

-- what a command has read, also where nobody tells the files
pub record HasBoard (known : Known) : Type 0 where
  pub script : OfScript known IsInRangeScript
  pub rom : IsRomSize (length known.rom)
  pub disk : IsDisk known.disk

pub record HasImage (known : Known) : Type 0 where
  pub script : OfScript known IsInRangeScript
  pub image : OfImage known (λ image. IsImage image.setup image.steps)

abbrev pub HasRead : Command → Known → Type 0
HasRead (Make rounds) known = Unit {0}
HasRead (Resume image script) known = HasImage known
HasRead _ known = HasBoard known

-- ---- the board

-- the board that a script asks for, with the images that were read
abbrev pub board_of : Known → Said → Setup
board_of known script = fitted script known.rom known.disk
