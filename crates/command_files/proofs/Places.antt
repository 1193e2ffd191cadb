-- A command at a place of its table: what its status is there, and which fetches it made.
use Rattle.std.proofs.Common.{◌≡◌, ◌≢◌, ℕ, suc, ◌+◌, ◌<◌, ◌⊎◌, inl, inr, List, [], ◌∷◌, ◌++◌, length, take, drop}
use Rattle.std.proofs.Common.{reverse, get_or, Option, Some, None, refl, sym, ap, ◌∙◌, subst, append_assoc, Result, Ok}
use Rattle.std.proofs.Common.{OnOk, arith}
use Rattle.board_prelude.proofs.{nat_tests, reverse-append, reverse-reverse, append-nil}
use Rattle.board_outside.specs.Outside.{Rose, OfFile, Fetch}
use Rattle.std.proofs.Math.Seq.{split_at}
use Rattle.script_spec.specs.ScriptText.{IsScriptBad}
use Rattle.command_words.specs.Words.{Command}
use Rattle.command_files.specs.declared.status.Which.{Which}
use Rattle.command_files.specs.declared.status.Which.TheVariants.{Script}
use Rattle.command_files.specs.declared.status.Status.{Status}
use Rattle.command_files.specs.declared.status.Status.TheVariants.{ReadFault, TooLong, BadScript, BadImage, NoMemory}
use Rattle.command_files.specs.Table.{files_of, name_in_words, limit_of}
use Rattle.command_files.specs.Known.{Files, Known, nothing_known, file_name, AreReadAs, ComesTo}
use Rattle.command_files.specs.Asked.{ReadsFile, FitsFile, IsNoImage}
use Rattle.command_files.specs.Outcomes.{ShelfCall, OfFiles, CanRead, FailsAt, IsNotTaken, IsRefused}
use Rattle.command_files.specs.Calls.{OfCalls, FoundEnd, ReachesFile, Reads, ReadEach, FetchesOf}
use Rattle.command_files.specs.Steps.{IsPassed, IsNotPassed, ReadsNamed}
use Rattle.command_files.proofs.CallLemmas.{Both, calls_both, calls_hold}
use Rattle.command_files.proofs.Refusals.{of_files, at_files, at_file, any_file}
use Rattle.logs.proofs.Lines.{reverse-take_more}

-- ---- the files before a place

-- these files, the latest first, were read or passed over, and this is known
abbrev pub AreTaken : Command → Option Files → List Which → Known → Type 0
AreTaken command told [] known = known ≡ nothing_known
AreTaken command told (which ∷ before) known =
    (earlier : Known) × AreTaken command told before earlier
    × IsPassed told earlier which (file_name command earlier which) known

taken_as : (command : Command) (files : Files) (whiches : List Which) (known : Known) →
    AreTaken command (Some files) whiches known → AreReadAs command files whiches known
taken_as command files [] known is = grind (arith, nat_tests)
taken_as command files (which ∷ before) known is = grind (arith, nat_tests, taken_as command files before is.0)

pub are_read : (command : Command) (told : Option Files) (whiches : List Which) (known : Known) →
    AreTaken command told whiches known → OfFiles told (λ files. AreReadAs command files whiches known)
are_read command None whiches known is = tt
are_read command (Some files) whiches known is = taken_as command files whiches known is

-- ---- the file at a place

-- a name in the words is the name
in_words : (command : Command) (known : Known) (which : Which) (name other : List ℕ) →
    file_name command known which ≡ Some name → name_in_words command which ≡ Some other → other ≡ name
in_words command known which name other named is = grind (arith, nat_tests)

-- the fetches of these files, the latest first, read each to its end, whatever is read later
abbrev pub WholeBefore : Command → Option Files → List Which → List Fetch → Type 0
WholeBefore command told whiches made = (more : List Fetch) → ReadEach command told whiches more made

-- files that were not read
not_read : (command : Command) (told : Option Files) (others whiches : List Which) (more made : List Fetch) →
    ReadEach command told whiches more made → ReadEach command told (others ++ whiches) more made
not_read command told [] whiches more made is = grind (arith, nat_tests, append-nil)
not_read command told (other ∷ others) whiches more made is =
    grind (arith, nat_tests, append-nil, not_read command told others whiches more made is)

-- a loop along the table
module _ (command : Command) (told : Option Files) (files : List Which) (index : ℕ) (d : Which) (known : Known)
    (table : files ≡ files_of command) (inside : index < length files)
    (are : AreTaken command told (reverse (take index files)) known) where
  abbrev which : Which
  which = get_or files index d

  abbrev before : List Which
  before = reverse (take index files)

  abbrev later : List Which
  later = drop (suc index) files

  place : files_of command ≡ reverse before ++ which ∷ later
  place = rw (← table, reverse-reverse (take index files)) (split_at files index d inside)

  -- the file at the index was read or passed over
  pub taken_next : (now : Known) → IsPassed told known which (file_name command known which) now →
      AreTaken command told (reverse (take (index + 1) files)) now
  taken_next now passed = rw (reverse-take_more files index d inside) (known, are, passed)

  reaches : (name : List ℕ) → file_name command known which ≡ Some name → ReachesFile command told which name
  reaches name named = record {
    can_read = (reverse before, later, place);
    comes =
        of_files told (λ files. (known' : Known) × ComesTo command files which known' name)
        (λ files is. (
          known,
          record {
            before = before;
            later = later;
            place = place;
            read = at_files told files (λ files'. AreReadAs command files' before known) is
                (are_read command told before known are);
            named = named;
          },
        ));
    in_words = λ other is. in_words command known which name other named is;
  }

  module _ (start now : ℕ) (kept : List ℕ) (name : List ℕ) (named : file_name command known which ≡ Some name) where
    abbrev Call : ShelfCall
    Call = record { files = told; faults_before = start; faults_now = now; failed_name = kept }

    reads :
        (P : (name bytes : List ℕ) → Type 0) → OfFile told name (P name) →
        OfFiles told (λ files. ReadsFile command files which P)
    reads P holds =
        of_files told (λ files. ReadsFile command files which P)
        (λ files is.
        let comes = at_files told files (λ files'. (known' : Known) × ComesTo command files' which known' name) is
        (reaches name named).comes in
        record { known = comes.0; name = name; comes = comes.1; holds = at_file told files name (P name) is holds })

    fails : Rose start now → kept ≡ take 255 name → FailsAt which Call command
    fails rose names = record {
      can_read = (reaches name named).can_read;
      rose = rose;
      in_words = λ other is. names ∙ ap (take 255) (sym (in_words command known which name other named is));
      comes = reads (λ name' _. kept ≡ take 255 name') (any_file told name (kept ≡ take 255 name) names);
    }

    not_taken : (status : Status) → IsNotTaken which name Call status → IsRefused command Call status
    not_taken (ReadFault other) (same, rose, names) = rw same (fails rose names)
    not_taken (TooLong other) (same, holds) =
        rw same
        ((reaches name named).can_read, reads (λ name' bytes. limit_of which < length bytes) holds)
    not_taken (BadScript line why) (same, holds) = (
      subst (CanRead command) same (reaches name named).can_read,
      subst (λ (which' : Which). OfFiles told
          (λ files. ReadsFile command files which' (FitsFile Script (λ bytes. IsScriptBad bytes line why)))) same
          (reads (FitsFile Script (λ bytes. IsScriptBad bytes line why)) holds),
    )
    not_taken (BadImage other) (same, kind, holds) =
        rw same
        (((reaches name named).can_read, kind), reads (FitsFile which (IsNoImage which)) holds)
    not_taken NoMemory is = tt
    not_taken _ is = absurd is

  -- the command stops at this place, after none of the fetches before had failed
  pub stops :
      (name : Option (List ℕ)) → file_name command known which ≡ name →
      (start between now : ℕ) (kept : List ℕ) (status : Status) → between ≡ start →
      IsNotPassed which name
      (record { files = told; faults_before = between; faults_now = now; failed_name = kept }) status →
      IsRefused command (record { files = told; faults_before = start; faults_now = now; failed_name = kept }) status
  stops None named start between now kept status same is = absurd is
  stops (Some name) named start between now kept status same is =
      rw (← same) (not_taken between now kept name named status is)

  -- ---- the fetches

  own_read : {T E : Type 0} (result : Result T E) (name : Option (List ℕ)) → file_name command known which ≡ name →
      (more made : List Fetch) → ReadsNamed result name (limit_of which) made →
      (more ≢ [] → OnOk result (FoundEnd made) → FoundEnd made) → (made ≡ []) ⊎ Reads command told which more made
  own_read result None named more made is whole = inl is
  own_read result (Some name) named more made is whole =
      inr (record { name = name; reaches = reaches name named; reading = is.0; whole = λ some. whole some is.1 })

  -- the file at this place was read to its end
  own_whole : {T : Type 0} (E : Type 0) (value : T) (made : List Fetch) → Both (WholeBefore command told before)
      (ReadsNamed {E = E} (Ok value) (file_name command known which) (limit_of which)) made →
      WholeBefore command told (which ∷ before) made
  own_whole E value made is = λ more. (
    is.second,
    is.first,
    is.parts,
    own_read {E = E} (Ok value) (file_name command known which) refl more is.second is.two (λ some found. found),
    is.one (more ++ is.second),
  )

  pub fetches_next : {T : Type 0} (E : Type 0) (value : T) (start between now : Option (List Fetch)) →
      OfCalls start between (WholeBefore command told before) →
      OfCalls between now (ReadsNamed {E = E} (Ok value) (file_name command known which) (limit_of which)) →
      OfCalls start now (WholeBefore command told (reverse (take (index + 1) files)))
  fetches_next E value start between now one two =
      rw (reverse-take_more _ _ d inside) (calls_hold _ _ _ _ (own_whole E value) (calls_both _ _ _ _ _ one two))

  -- the table from its end
  mirrored : reverse (files_of command) ≡ reverse later ++ which ∷ before
  mirrored = grind (arith, nat_tests, place, reverse-append, reverse-reverse, append_assoc)

  last_read : {T E : Type 0} (result : Result T E) (made : List Fetch) → Both (WholeBefore command told before)
      (ReadsNamed result (file_name command known which) (limit_of which)) made → FetchesOf command told made
  last_read result made is =
      rw mirrored
      (not_read command told (reverse later) (which ∷ before) [] made (
        is.second,
        is.first,
        is.parts,
        own_read result (file_name command known which) refl [] is.second is.two (λ some. absurd (some refl)),
        is.one ([] ++ is.second),
      ))

  -- the command read the file at this place, and none later
  pub fetches_last : {T E : Type 0} (result : Result T E) (start between now : Option (List Fetch)) →
      OfCalls start between (WholeBefore command told before) →
      OfCalls between now (ReadsNamed result (file_name command known which) (limit_of which)) →
      OfCalls start now (FetchesOf command told)
  fetches_last result start between now one two = calls_hold _ _ _ _ (last_read result) (calls_both _ _ _ _ _ one two)

-- the command read all files
pub fetches_all : (command : Command) (told : Option Files) (start now : Option (List Fetch)) →
    OfCalls start now (WholeBefore command told (reverse (files_of command))) →
    OfCalls start now (FetchesOf command told)
fetches_all command told start now is = calls_hold _ _ _ _ (λ made whole. whole []) is
