-- Before anything has happened the parts and the sessions show the machine's opening.
use Rattle.std.proofs.Common.{◌≡◌, ℕ, zero, suc, ◌+◌, ◌*◌, List, [], ◌∷◌, length, map, get_or, Option, None, Some, Bool}
use Rattle.std.proofs.Common.{false, true, refl, sym, ap, ◌∙◌, subst, arith}
use Rattle.std.specs.Prelude.{sum_by, ◌||◌, is_some}
use Rattle.std.specs.List.{list_any}
use Rattle.std.proofs.lemmas.List.Sums.{sum_by-cons}
use Rattle.hy_bound.specs.declared.Txn.{Txn}
use Rattle.hy_stamp.specs.declared.Stamp.{Stamp}
use Rattle.hy_chain.specs.Chains.{Undo, Falls, seen}
use Rattle.hy_chain.specs.Pruning.{stamps_of}
use Rattle.hy_undo.specs.Images.{Image, before}
use Rattle.hy_undo.specs.Places.{Place, cell_of, stamps}
use Rattle.hy_event.specs.declared.SessionData.{SessionData}
use Rattle.hy_event.specs.declared.Open.{Open}
use Rattle.hy_machine.specs.declared.Setting.{Setting}
use Rattle.hy_machine.specs.States.{Session, Open as MachineOpen}
use Rattle.hy_machine.specs.Positions.{item_at}
use Rattle.hy_machine.specs.Tables.{opening_tables}
use Rattle.hy_machine.specs.Sessions.{fresh, session_at}
use Rattle.hy_machine.specs.Holding.{holds}
use Rattle.hy_machine.specs.Outcomes.{outcomes_from}
use Rattle.hy_machine.specs.Runs.{opening_of}
use Rattle.hy_machine.specs.Begun.{count_open}
use Rattle.hy_refinement.specs.Transactions.{IsOpen}
use Rattle.hy_refinement.specs.Numbers.{CoreShows}
use Rattle.hy_refinement.specs.Sessions.{NowShows, SessionShows}
use Rattle.hy_refinement.specs.Places.{PlaceShows}
use Rattle.hy_refinement.specs.Shows.{IsLaidOut, IsFresh, blank_core}
use Rattle.hy_refinement.specs.Laws.{OpeningIsShown}

-- no session has done anything
all_fresh : (programs : List (List Txn)) (number : ℕ) → get_or (map (λ txns. fresh) programs) number fresh ≡ fresh
all_fresh [] number = refl
all_fresh (txns ∷ programs) zero = refl
all_fresh (txns ∷ programs) (suc number) = all_fresh programs number

fresh_at : (setting : Setting) (number : ℕ) → session_at (opening_of setting) number ≡ fresh
fresh_at setting number = all_fresh setting.programs number

none_begun : (programs : List (List Txn)) → sum_by (λ (session : Session). length session.done + count_open session.now) (map (λ txns. fresh) programs) ≡ 0
none_begun [] = refl
none_begun (txns ∷ programs) =
    let rest = none_begun programs in
    let e = sum_by-cons (λ (session : Session). length session.done + count_open session.now) fresh (map (λ txns. fresh) programs) in
    omega (arith, rest, e)

none_held : (setting : Setting) (table pos : ℕ) (programs : List (List Txn))
    → list_any (λ (session : Session). holds setting table pos session.now) (map (λ txns. fresh) programs) ≡ false
none_held setting table pos [] = refl
none_held setting table pos (txns ∷ programs) = none_held setting table pos programs

-- so no transaction is open
none_open : (setting : Setting) (sessions : List SessionData) (number : ℕ) (session : SessionData) (now : Open) (current : MachineOpen)
    → IsOpen (opening_of setting) sessions number session now current → ⊥
none_open setting sessions number session now current is =
    absurd (let e : None ≡ Some current = sym (ap (λ (one : Session). one.now) (fresh_at setting number)) ∙ is.open_there in cc)

or_nothing : (b c : Bool) → c ≡ false → b ≡ (b || c)
or_nothing true c e = refl
or_nothing false c e = sym e

core_shown : (setting : Setting) (sessions : List SessionData) → CoreShows (opening_of setting) blank_core sessions
core_shown setting sessions = record {
  entries_show = record { count = refl; each = λ rank entered entry e f. absurd cc };
  times_rise = record { above = λ rank entry e. absurd cc; rise = λ rank other entry later less e f. absurd cc };
  times_apart = record {
    times = λ rank entry e. absurd cc;
    starts = λ number session now current is. absurd (none_open setting sessions number session now current is);
    apart = λ number session now current is. absurd (none_open setting sessions number session now current is);
    one_each = λ number session now current is. absurd (none_open setting sessions number session now current is);
    next = let none = none_begun setting.programs in omega (arith, none);
  };
  active_is = record {
    rises = tt;
    has = λ number session now current is. absurd (none_open setting sessions number session now current is);
    only = λ start c. absurd (omega (arith, c.1));
  };
  mark_shows = record { mark = refl; stamping = λ number session now current is. absurd (none_open setting sessions number session now current is) };
}

session_shown : (setting : Setting) (number : ℕ) (session : SessionData) → IsFresh setting number session
    → SessionShows setting (opening_of setting) blank_core number session
session_shown setting number session is = record {
  session_is = is.session_is;
  done_shows = is.done ∙ ap (λ (one : Session). outcomes_from setting number 0 one.done) (sym (fresh_at setting number));
  now_shows = subst (λ (now : Option Open). NowShows setting (opening_of setting) blank_core number now (session_at (opening_of setting) number).now)
      (sym is.now)
      (subst (λ (one : Session). NowShows setting (opening_of setting) blank_core number None one.now) (sym (fresh_at setting number)) tt);
}

-- no stamp is in an empty chain
no_stamp : (place : Place) → place.chain ≡ [] → (stamp : Stamp) (rest : List Stamp) → stamps place ≡ stamp ∷ rest → ⊥
no_stamp place e stamp rest f = absurd (let g : [] ≡ stamp ∷ rest = sym (ap stamps_of e) ∙ f in cc)

place_shown : (setting : Setting) (sessions : List SessionData) (table chunk pos : ℕ) (place : Place) → IsLaidOut setting table pos place
    → PlaceShows setting (opening_of setting) blank_core sessions table chunk pos place
place_shown setting sessions table chunk pos place is = record {
  falls = subst (λ (chain : List (Undo Image)). Falls chain) (sym is.chain) tt;
  own_heads = λ number session now current open'. absurd (none_open setting sessions number session now current open');
  times_are_writers = record {
    top = λ stamp rest e. absurd (no_stamp place is.chain stamp rest e);
    behind = λ stamp rest e. absurd (no_stamp place is.chain stamp rest e);
  };
  last_writer_on_top = λ rank entered entry last e number session now current open'. absurd (none_open setting sessions number session now current open');
  viewer_sees = λ number session now current open'. absurd (none_open setting sessions number session now current open');
  newcomer_sees = λ viewer new. ap (λ (chain : List (Undo Image)). cell_of (seen before viewer place.version chain)) is.chain ∙ is.row;
  used_shows = is.used ∙ or_nothing (is_some (item_at (opening_tables setting) table pos)) (list_any
      (λ (session : Session). holds setting table pos session.now) (map (λ txns. fresh) setting.programs)) (none_held setting table pos setting.programs);
  death_shows = is.death;
}

pub opening_shown : OpeningIsShown
opening_shown setting parts sessions is = record {
  core = blank_core;
  parts_are = is.parts_are;
  core_shows = core_shown setting sessions;
  sessions_show = record {
    count = is.count;
    each = λ number session e. session_shown setting number session (is.each number session e);
  };
  places_show = λ table chunk index part place of e. place_shown setting sessions table chunk (chunk * setting.rows + index) place
      (is.places table chunk index part place of e);
}
