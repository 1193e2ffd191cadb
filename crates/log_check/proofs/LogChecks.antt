-- A whole check: passed, or where it fails.
use Rattle.std.proofs.Common.{ℕ, ◌≡◌, ◌≢◌, ◌+◌, ◌⊎◌, List, [], ◌∷◌, ◌++◌, length, All, refl, ◌∙◌, ◌==◌, true, false}
use Rattle.std.proofs.Common.{inl, append-nil, arith, Result, Ok, Err, MatchResult}
use Rattle.board_prelude.proofs.{common_steps, nat_tests, eqb-true, nil_from_length, true≢false, Entry, Setup, IsLegal}
use Rattle.board_prelude.proofs.{IsBegunFor, IsCompleteFor, in_file_order, OneReplay, log_text, complete_is_begun}
use Rattle.board_prelude.proofs.{begun_is_bounded, complete_is_whole, none_so_far}
use Rattle.board_prelude.specs.{Statement}
use Rattle.board_core.specs.Steps.{AreInRange}
use Rattle.script_spec.specs.Checks.{IsLogOf}
use Rattle.log_check.specs.declared.fault.CheckFault.{CheckFault}
use Rattle.log_check.specs.declared.fault.CheckFault.TheVariants.{Differs, NoMemory}
use Rattle.log_check.specs.Phases.{IsTyped}
use Rattle.log_check.specs.Checked.{IsCheckedLog}
use Rattle.log_check.specs.Walks.{StoppedCheck, FailedCheck}
use Rattle.log_check.proofs.Histories.{Known}
use Rattle.log_check.proofs.Differences.{differs, differs_at_once}

-- ---- what is known of the script

pub known : (setup : Setup) (phases : List (List Statement)) → OneReplay → All IsTyped (in_file_order phases) →
    AreInRange setup (in_file_order phases) → Known setup phases
known setup phases one typed range = grind (arith, nat_tests)

-- ---- how a check ends

pub nothing_begun : (phases : List (List Statement)) (entries : List Entry) → entries ≡ [] → IsBegunFor phases entries
nothing_begun phases entries fresh = rw fresh (none_so_far phases)

nothing_legal : (setup : Setup) (entries : List Entry) → entries ≡ [] → IsLegal setup entries
nothing_legal setup entries fresh = rw fresh tt

module _ {setup : Setup} {version : ℕ} {phases : List (List Statement)} {bytes : List ℕ} {entries : List Entry} where
  pub failed_first : entries ≡ [] → FailedCheck setup version phases bytes entries NoMemory
  failed_first fresh = grind (arith, nat_tests, common_steps, nothing_legal, nothing_begun)

  pub failed_heading : Known setup phases → entries ≡ [] → ((after : List ℕ) → bytes ≢ log_text version [] ++ after) →
      FailedCheck setup version phases bytes entries (Differs 1)
  failed_heading known fresh none =
      grind (arith, nat_tests, common_steps, differs_at_once, known, nothing_legal, nothing_begun)

  pub failed_within : (fault : CheckFault) → Known setup phases →
      StoppedCheck setup version phases bytes entries fault → FailedCheck setup version phases bytes entries fault
  failed_within fault known stopped = grind (arith, nat_tests, differs)

  module _ (rest : List ℕ) (count : ℕ) (legal : IsLegal setup entries) (complete : IsCompleteFor phases entries)
      (text : bytes ≡ log_text version entries ++ rest) (is : count ≡ length entries) where
    pub passed : (length rest == 0) ≡ true → IsCheckedLog setup version phases bytes entries count
    passed nothing = record {
      log = record {
        history = entries;
        legal = legal;
        complete = complete;
        text = rw (nil_from_length rest (eqb-true (length rest) 0 nothing)) at text
            ∙ append-nil (log_text version entries);
      };
      same = refl;
      count_is = is;
    }

    pub failed_end : Known setup phases → (length rest == 0) ≡ false →
        FailedCheck setup version phases bytes entries (Differs (count + 2))
    failed_end known some =
        let begun : IsBegunFor phases entries = complete_is_begun phases entries complete in
        failed_within (Differs (count + 2)) known (record {
          by = record {
            at_line = record {
              before = entries;
              rest = rest;
              text = text;
              place = omega (arith, is);
              stepped = inl refl;
            };
            legal = legal;
            begun = begun;
            none = λ entry after next more same.
                let whole = complete_is_whole phases entries complete in
                omega (arith, whole, begun_is_bounded phases (entry ∷ entries) more);
            unfinished = λ nothing whole. true≢false (rw nothing at some);
          };
          legal = legal;
          begun = begun;
        })

-- ---- what a caller hears

pub begun_after : (setup : Setup) (version : ℕ) (phases : List (List Statement)) (bytes : List ℕ) (entries : List Entry)
    (result : Result ℕ CheckFault) → MatchResult result (IsCheckedLog setup version phases bytes entries)
    (FailedCheck setup version phases bytes entries) → IsBegunFor phases entries
begun_after setup version phases bytes entries result checked = grind (arith, nat_tests, complete_is_begun)

pub exactly : {setup : Setup} {version : ℕ} {phases : List (List Statement)} {bytes : List ℕ} (entries : List Entry)
    (result : Result ℕ CheckFault) → MatchResult result (IsCheckedLog setup version phases bytes entries)
    (FailedCheck setup version phases bytes entries) → (log : IsLogOf setup version phases bytes) →
    (result ≡ Ok (length log.history)) ⊎ (result ≡ Err NoMemory)
exactly entries result checked log = grind (arith, nat_tests, complete_is_whole)
