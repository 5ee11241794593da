-- The three demands hold, catching up always finishes, swaps are one act, edition 2 reads an edition 1 sheet as edition 1 does, and forget is retired. Assumes
-- nothing.
use Rattle.circuit.specs.Call.{board}
use Rattle.circuit.proofs.Equations.{equations}
use Rattle.circuit.proofs.Retention.{drop_words}
use Rattle.circuit.proofs.Board.{listed_count, listed_at}
use Rattle.office.specs.Demands.{Refuses, Means, Agrees, Finishes, Swaps, Editions, Retires, Demands}
use Rattle.office.proofs.Refusals.{turned_back, board_refuses, close_refuses, swap_refuses, accepted_lent}
use Rattle.office.proofs.Examples.{each_given}
use Rattle.office.proofs.Older.{lower_accepted, former_refused}
use Rattle.office.proofs.Words.{sheet_words}
use Rattle.office.proofs.Meaning.{opens_exactly, opening_writes, fits_sheet, one_layout, accepted_opened, bare_unstored, gives_solution}
use Rattle.office.proofs.Leaves.{leaves}
use Rattle.office.proofs.Boards.{result_words, board_counts}
use Rattle.office.proofs.Closes.{close_goes_on, office_closes}
use Rattle.office.proofs.Accepted.{office_accepted}
use Rattle.office.proofs.Agreeing.{offices_agree, offices_retain, offices_retain_post}
use Rattle.office.proofs.StepsEnd.{office_steps_end}
use Rattle.office.proofs.Arriving.{office_quiet_right, office_any_order, office_coherent}
use Rattle.office.proofs.Swapping.{swaps_keep_sum, office_swap_follows, swap_counts}
use Rattle.layout.proofs.Retired.{none_in_2}
use Rattle.layout.proofs.Spreads.{zeroes}
use Rattle.office.proofs.Retired.{given_5_in_2, refused_5, treated_serves, migrated_serves, treated_runs}
use Rattle.office.proofs.Retired.{treated_postings, treated_circuit, treated_agree, accepts_same, coherent_same, asks_right}
use Rattle.office.proofs.Editions.{edition_serves, edition_runs, edition_postings, edition_circuit, edition_agree}

-- Demand 1.
pub refuses : Refuses
refuses =
    record {
      given = λ r s o. (turned_back r s o).given;
      accepted = λ r s o. (turned_back r s o).accepted;
      offset_0 = λ r s o. (turned_back r s o).offset_0;
      left = λ r s o. (turned_back r s o).left;
      no_value = λ r s o. (turned_back r s o).no_value;
      lowest = λ r b s o. (turned_back r s o).lowest b;
      boards = board_refuses;
      closes = close_refuses;
      swaps = swap_refuses;
      older = lower_accepted;
      former = former_refused;
      each = each_given;
      words = sheet_words;
    }

-- Demand 2.
pub means : Means
means =
    record {
      opens = opens_exactly;
      writes = opening_writes;
      circuit = λ s o f. fits_sheet s o f;
      only = one_layout;
      lent = accepted_opened;
      unstored = bare_unstored;
      solution = gives_solution;
      leaves = λ s o b lent. leaves s o lent b;
      lists = λ items. record { count_is = listed_count items; item_is = listed_at items };
      results = result_words;
      equations = equations;
    }

-- Demand 3.
pub agrees : Agrees
agrees =
    record {
      agree = offices_agree;
      retained = λ s o how e. offices_retain_post s o how e;
      retained_any = λ s o how e. offices_retain s o how e;
      dropped = drop_words;
      counts = λ s o bytes items results e cs. board_counts s o (accepted_lent s o (board items results) e) bytes items results e cs;
      closes = λ s o how e cs. office_closes s o how e cs;
      goes_on = λ s o bytes lent cs i. close_goes_on s o lent bytes cs i;
      never_refused = λ s o how e cs. office_accepted s o how e cs;
    }

-- 02's job 7.
pub finishes : Finishes
finishes = record { steps_end = office_steps_end; quiet_right = office_quiet_right; any_order = office_any_order }

-- 02's job 8.
pub swaps : Swaps
swaps = record { sum_kept = swaps_keep_sum; follows = office_swap_follows; counts = swap_counts }

-- 02's job 9.
pub editions : Editions
editions =
    record { same = edition_serves; lists = edition_runs; postings = edition_postings; circuit = edition_circuit; agree = edition_agree }

pub retires : Retires
retires =
    record {
      none_in_2 = none_in_2;
      given_5 = given_5_in_2;
      refused = refused_5;
      zeroed = zeroes;
      treated = treated_serves;
      treated_lists = treated_runs;
      treated_postings = treated_postings;
      treated_circuit = treated_circuit;
      migrates = migrated_serves;
      agree = treated_agree;
      accept = accepts_same;
      coherent = coherent_same;
      written = office_coherent;
      right = asks_right;
    }

pub demands : Demands
demands = record { refuses = refuses; means = means; agrees = agrees; finishes = finishes; swaps = swaps; editions = editions; retires = retires }
