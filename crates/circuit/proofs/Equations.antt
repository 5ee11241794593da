-- The equations of specs/Equations hold. Assumes nothing.
use Prim.Native.Nat.{ℕ}
use native.Mathlib.Omega.{arith}
use mathlib.Core.Path.{◌≡◌, refl, sym, ap, ◌∙◌}
use mathlib.Core.Bool.{Bool, true, false, cond}
use mathlib.Core.Logic.{◌⊎◌, inl, inr}
use mathlib.Core.List.{map}
use mathlib.Core.Option.{some}
use borrow.Author.Tests.{le-leb, lt-leb}
use Rattle.circuit.specs.Sheet.{Sheet, defer, renew, size, item_at, is_figure, parents, parents_of, spread_of, member, evaluate, Ordered, Entries}
use Rattle.circuit.specs.Table.{Table, Mark, unmarked, refresh, notice, held, upd, value_in, is_notice}
use Rattle.circuit.specs.Value.{Value, null, same}
use Rattle.circuit.specs.Circuit.{Listed}
use Rattle.circuit.specs.Owed.{owed}
use Rattle.circuit.specs.Machine.{looked, gather, work_out_by, look_cell, look_up, work_out, refresh_cleared, renew_child, defer_child}
use Rattle.circuit.specs.Machine.{tell_stored, tell_cell, tell_child, tell_if, tell_below, tell, lowest_marked}
use Rattle.circuit.specs.Closing.{closed_value, close_item, close_below, close_all}
use Rattle.circuit.specs.Fresh.{give, fresh_ask, give_item}
use Rattle.circuit.specs.Equations.{OutAndNull, LookingUp, Owing, TellingChild, Telling, Closing, FreshGives, MarkedFirst, LowestFound, Equations}
use Rattle.circuit.proofs.View.{never}
use Rattle.circuit.proofs.Fill.{look_up_is}
use Rattle.circuit.proofs.OnTheWay.{SameLook, each_parent, look_forms}
use Rattle.circuit.proofs.Solution.{give_equation, figure_below}
use Rattle.circuit.proofs.Closing.{close_above, close_works}
use Rattle.circuit.proofs.Closure.{lowest_marked_lem, listed_member, member_listed}
use Rattle.circuit.proofs.Owed.{Child, stored_leans, leaning_cases, cases_leaning, owed_child, owed_finds, owed_unique, owed_leads, leads_owed}
use Rattle.circuit.proofs.CalledOn.{told_owed, tell_unowed}
use Rattle.circuit.proofs.StepOwed.{step_owed, caught_owed}
use Rattle.circuit.proofs.CalledMore.{reached_by, caught_by}
use Rattle.circuit.proofs.RuleLaws.{same_true, same_refl, allNull-map, all_null_lem, out_gives_out, choice_out, choice_null, choice_picks}
use Rattle.circuit.proofs.CatchUp.{caught_unique, lowest_none, lowest_some, none_quiet, some_quiet, catch_up-quiet, catch_up-ends}

outs_and_nulls : OutAndNull
outs_and_nulls =
    record {
      any_out = out_gives_out;
      first_out = choice_out;
      first_null = choice_null;
      picks_second = λ z b c e. choice_picks z b c ∙ rw e;
      picks_third = λ z b c e. choice_picks z b c ∙ rw e;
      all_null = λ op ps. all_null_lem op (map (λ p. null) ps) (allNull-map (λ p. null) (λ p. refl) ps);
    }

looking_up : (S : Sheet) → Ordered S → (T : Table) → LookingUp S T
unfolding gather work_out_by work_out
looking_up S ordered T =
    record {
      stored = λ i v m e. look_up_is S ordered T i ∙ ap (look_cell (look_up S) S T i) e;
      passed = λ i own op spread ps it e. look_up_is S ordered T i ∙ (rw (e, it));
      kept = λ i own op spread ps it e. look_up_is S ordered T i ∙ (rw (e, it));
      worked = λ i op keep spread ps it. rw it;
      none_gathered = refl;
      next_gathered = λ p ps. refl;
      each_parent = each_parent S T;
      whatever_rules = λ R alike i. let r : SameLook (look_up R T i) (look_up S T i) = look_forms R S alike T T (λ k. refl) i in (r.forms, r.flag);
    }

-- values that differ are told apart
unlike : (v w : Value) → (¬ (w ≡ v)) → same v w ≡ false
unlike v w n = go (same v w) refl
  where
    go : (b : Bool) → same v w ≡ b → b ≡ false
    go true e = absurd (n (sym (same_true v w e)))
    go false e = refl

module _ (S : Sheet) (T : Table) (c : ℕ) where
  -- a stored child that is renewed
  renewal : (v : Value) (m : Mark) → tell_child S T c ≡ renew_child S T c v m
      → (((work_out S T c).value ≡ v) → tell_child S T c ≡ upd (work_out S T c).table c (held v (refresh_cleared m)))
      × ((¬ ((work_out S T c).value ≡ v)) → tell_child S T c ≡ upd (work_out S T c).table c (held (work_out S T c).value notice))
  renewal v m is = (
    λ e. is ∙ by true (ap (same v) e ∙ same_refl v),
    λ n. is ∙ by false (unlike v (work_out S T c).value n),
  )
    where
      by : (b : Bool) → same v (work_out S T c).value ≡ b
          → renew_child S T c v m ≡ upd (work_out S T c).table c (cond b (held v (refresh_cleared m)) (held (work_out S T c).value notice))
      by b e = ap (λ x. upd (work_out S T c).table c (cond x (held v (refresh_cleared m)) (held (work_out S T c).value notice))) e

  telling_child : TellingChild S T c
  unfolding tell_child
  telling_child =
      record {
        calls_on = λ f e o. rw (o, e);
        passes_over = λ f e o. rw (o, e);
        defers = λ v m e s n. ap (tell_cell (owed S T c) S T c) e ∙ ap (λ x. tell_stored x S T c v m) s ∙ deferred v m n;
        renews = λ v m e how. renewal v m (ap (tell_cell (owed S T c) S T c) e ∙ by v m how);
      }
    where
      deferred : (v : Value) (m : Mark) → is_notice m ≡ false → defer_child S T c v m ≡ upd T c (held v refresh)
      deferred v unmarked n = refl
      deferred v refresh n = refl
      deferred v notice n = never (cc)

      awaiting : (v : Value) (m : Mark) → is_notice m ≡ true → defer_child S T c v m ≡ renew_child S T c v m
      awaiting v unmarked n = never (cc)
      awaiting v refresh n = never (cc)
      awaiting v notice n = refl

      by : (v : Value) (m : Mark) → (spread_of (item_at S c) ≡ renew) ⊎ ((spread_of (item_at S c) ≡ defer) × (is_notice m ≡ true))
          → tell_stored (spread_of (item_at S c)) S T c v m ≡ renew_child S T c v m
      by v m (inl s) = ap (λ x. tell_stored x S T c v m) s
      by v m (inr (s, n)) = ap (λ x. tell_stored x S T c v m) s ∙ awaiting v m n

owing : (S : Sheet) → Ordered S → (T : Table) → Owing S T
owing S ordered T =
    record {
      some_child_lem = λ i. (
        λ e.
            let c : Child S T i = owed_finds S ordered T i e in
            (c.item, (c.listed, leaning_cases (T c.item) (owed S T c.item) c.leans_on)),
        λ c. owed_child S ordered T i c.0 c.1.0 (cases_leaning (T c.0) (owed S T c.0) c.1.1),
      );
      only = λ w solves. owed_unique S ordered T w
          (λ i c l e. (solves i).1 (c, (l, leaning_cases (T c) (w c) e)))
          (λ i e. let c = (solves i).0 e in (c.0, (c.1.0, cases_leaning (T c.0) (w c.0) c.1.1)));
      leads = λ i. (owed_leads S ordered T i, λ k. leads_owed S ordered T i k.0 k.1.0 (stored_leans (T k.0) (owed S T k.0) k.1.1));
      when_told = told_owed S ordered T;
      none_called = tell_unowed S ordered T;
      stepped = step_owed S ordered T;
      caught_up = caught_owed S ordered T;
    }

telling : (S : Sheet) (i : ℕ) (T : Table) → Telling S i T
unfolding tell tell_below
telling S i T =
    record {
      all = refl;
      none_told = refl;
      child_told = λ k l. ap (λ b. tell_if b S (tell_below S i T k) k) (listed_member i (parents S k) l);
      passed_over = λ k n. ap (λ b. tell_if b S (tell_below S i T k) k) (unlisted (member i (parents S k)) k n refl);
    }
  where
    unlisted : (b : Bool) (k : ℕ) → ¬ Listed i (parents S k) → member i (parents S k) ≡ b → b ≡ false
    unlisted true k n e = absurd (n (member_listed i (parents S k) e))
    unlisted false k n e = refl

closing_run : (S : Sheet) → Ordered S → (T : Table) → Closing S T
unfolding close_all close_below close_item closed_value
closing_run S ordered T =
    record {
      all = refl;
      none_closed = refl;
      entry_closed = λ k it.
          let U : Table = close_below S T k in
          ap (λ x. upd U k (held (evaluate x (value_in (U k)) (map (λ p. value_in (U p)) (parents_of x))) unmarked)) it
          ∙ ap (λ c. upd U k (held (value_in c) unmarked)) (close_above S T k k (omega arith));
      figure_closed = λ k op keep spread ps it.
          let U : Table = close_below S T k in
          let value = ap (λ x. evaluate x (value_in (U k)) (map (λ p. value_in (U p)) (parents_of x))) it in (
            ap (λ v. upd U k (held v unmarked)) value,
            close_works S ordered T k (figure_below S k (ap is_figure it)) (ap is_figure it) ∙ ap (λ v. looked U v false) value,
          );
    }

fresh_gives : (S : Sheet) → Ordered S → (E : Entries) → FreshGives S E
unfolding fresh_ask
fresh_gives S ordered E =
    record {
      given = λ i low. rw (lt-leb (size S) i low);
      of_entry = λ i it. give_equation S ordered E i ∙ ap (λ x. give_item (give S E) x (E i)) it;
      of_figure = λ i op keep spread ps it. give_equation S ordered E i ∙ ap (λ x. give_item (give S E) x (E i)) it;
      of_none = λ i high. rw (le-leb (size S) i high);
    }

lowest_item : (T : Table) (n : ℕ) → LowestFound T n
lowest_item T n =
    record {
      no_item = (none_quiet T n, lowest_none T n);
      item = λ i. (found i, λ h. lowest_some T i h.first h.marked n h.below);
    }
  where
    found : (i : ℕ) → lowest_marked T n ≡ some i → MarkedFirst T n i
    found i e = record { below = (lowest_marked_lem T n i e).0; marked = (lowest_marked_lem T n i e).1; first = some_quiet T n i e }

pub equations : Equations
equations =
    record {
      out_and_null = outs_and_nulls;
      looking = looking_up;
      owing = owing;
      telling_child = telling_child;
      telling = telling;
      closing = closing_run;
      fresh = fresh_gives;
      lowest = lowest_item;
      catching = λ S ordered T.
          record {
            reached = catch_up-ends S ordered T;
            only = λ U caught. caught_unique caught (catch_up-ends S ordered T);
            quiet = catch_up-quiet S ordered T;
            reached_by = reached_by S ordered T;
            only_by = caught_by S ordered T;
          };
    }
