-- Outputs written one after another.
use Rattle.std.proofs.Common.{◌≡◌, ◌++◌, ◌∷◌, [], ℕ, List, Option, Some, None, refl, sym, ap, subst, arith}
use Rattle.program_shell.proofs.Names.{nat_tests, Files, FileHolds, StoreView, ChangesOnlyFiles, IsNoneOf, OutputValue, WroteAll, WroteUpTo, output_names, write_call, CallFailed, HasNoNewFault, ChangesOnlyFile, HaveDistinctNames, HaveFileNames}

-- nothing is written where there are no outputs
same_files : (files : Option Files) → ChangesOnlyFiles [] files files
same_files None = tt
same_files (Some files) = λ name none. refl

wrote_none : (s : StoreView) → WroteAll [] s s
wrote_none s = record { held = tt; others = same_files s.files; faults = refl; blame = refl }

-- The content of a file is unchanged if only others change.
holds_still : (old new : Option Files) (names : List (List ℕ)) (name content : List ℕ) → ChangesOnlyFiles names old new
    → IsNoneOf names name → FileHolds old name content → FileHolds new name content
holds_still old new names name content h1 h2 h3 = grind (arith, nat_tests)

-- the first output could not be written
lost_first : (o : OutputValue) (rest : List OutputValue) (s new : StoreView) → ChangesOnlyFile s.files new.files o.name
    → CallFailed s new (write_call o.name) → WroteUpTo (o ∷ rest) o.name s new
lost_first o rest s new changes fault = record {
  done = [];
  lost = o;
  left = rest;
  split = refl;
  same = refl;
  fault = fault;
  held = tt;
  others = grind (arith, nat_tests, s.files, new.files, o.name, (same_files new.files));
}

-- the names of the outputs before one that is lost are names of all
pub none_before : (done : List OutputValue) (lost : OutputValue) (left rest : List OutputValue) (name : List ℕ) → done ++ lost ∷ left ≡ rest
    → IsNoneOf (output_names rest) name → IsNoneOf (output_names (done ++ lost ∷ [])) name
none_before done lost left rest name split none =
    shorter done (subst (λ (xs : List OutputValue). IsNoneOf (output_names xs) name) (sym split) none)
  where
    shorter : (done : List OutputValue) → IsNoneOf (output_names (done ++ lost ∷ left)) name
        → IsNoneOf (output_names (done ++ lost ∷ [])) name
    shorter [] none = (none.0, tt)
    shorter (o ∷ more) none = (none.0, shorter more none.1)

-- an output is written, and then the rest up to one that is lost
wrote_up_to : (o : OutputValue) (rest : List OutputValue) (name : List ℕ) (s mid new : StoreView)
    → IsNoneOf (output_names rest) o.name → FileHolds mid.files o.name o.content → ChangesOnlyFile s.files mid.files o.name
    → HasNoNewFault s mid → WroteUpTo rest name mid new → WroteUpTo (o ∷ rest) name s new
wrote_up_to o rest name s mid new none holds changes stays wrote = record {
  done = o ∷ wrote.done;
  lost = wrote.lost;
  left = wrote.left;
  split = ap (λ (xs : List OutputValue). o ∷ xs) wrote.split;
  same = wrote.same;
  fault = grind (arith, nat_tests, stays.count, wrote.fault);
  held = (
    holds_still mid.files new.files (output_names (wrote.done ++ wrote.lost ∷ [])) o.name o.content wrote.others
        (none_before wrote.done wrote.lost wrote.left rest o.name wrote.split none) holds,
    wrote.held,
  );
  others = grind (arith, nat_tests, s.files, mid.files, new.files, o.name, wrote.others);
}

-- Some outputs are written: all are once the remaining ones are, and a failed write of one of them is that of all.
pub record WritesOn (outputs left : List OutputValue) (before now : StoreView) : Type 0 where
  pub named : HaveFileNames left
  pub apart : HaveDistinctNames left
  pub done : (after : StoreView) → WroteAll left now after → WroteAll outputs before after
  pub stops : (name : List ℕ) (after : StoreView) → WroteUpTo left name now after → WroteUpTo outputs name before after

pub writes_on : (outputs left : List OutputValue) (o : OutputValue) (rest : List OutputValue) (before now next : StoreView)
    → WritesOn outputs left before now → left ≡ o ∷ rest → FileHolds next.files o.name o.content
    → ChangesOnlyFile now.files next.files o.name → HasNoNewFault now next → WritesOn outputs rest before next
writes_on outputs left o rest before now next writes is holds changes stays =
    step (subst (λ (ws : List OutputValue). WritesOn outputs ws before now) is writes)
  where
    step : WritesOn outputs (o ∷ rest) before now → WritesOn outputs rest before next
    step on = record {
      named = on.named.1;
      apart = on.apart.1;
      done = λ after wrote. on.done after (grind (arith, nat_tests, on.apart.0));
      stops = λ name after wrote. on.stops name after (wrote_up_to o rest name now next after on.apart.0 holds changes stays wrote);
    }

pub writes_up_to : (outputs left : List OutputValue) (o : OutputValue) (rest : List OutputValue) (before now next : StoreView)
    → WritesOn outputs left before now → left ≡ o ∷ rest → ChangesOnlyFile now.files next.files o.name
    → CallFailed now next (write_call o.name) → WroteUpTo outputs o.name before next
writes_up_to outputs left o rest before now next writes is changes fault =
    writes.stops o.name next (subst (λ (ws : List OutputValue). WroteUpTo ws o.name now next) (sym is)
    (lost_first o rest now next changes fault))

pub writes_all : (outputs left : List OutputValue) (before now : StoreView) → WritesOn outputs left before now → left ≡ []
    → WroteAll outputs before now
writes_all outputs left before now on none =
    on.done now (subst (λ (ws : List OutputValue). WroteAll ws now now) (sym none) (wrote_none now))
