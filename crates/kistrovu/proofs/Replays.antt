-- The log of a line and its replay: what the calls hand back and leave, and that a replay accepts the line's own log alone. Assumes nothing.
use Prim.Native.Nat.{ℕ, ◌*◌, ◌/◌, ◌≤◌}
use mathlib.Core.Path.{◌≡◌, refl, sym, ap, ◌∙◌}
use mathlib.Core.Bool.{Bool, true, false, cond}
use mathlib.Core.List.{List}
use native.Mathlib.Nat.{div-add-mod'}
use native.Mathlib.Omega.{arith}
use native.Mathlib.Decide.{ℕ_discrete}
use lib.IntN.{ℤ}
use lib.ListN.{length, take}
use Rattle.std.specs.Prelude.{Option, Some, None, Result, OnOk}
use Rattle.std.specs.Option.{ok_or}
use Rattle.lists.specs.Lists.{over}
use Rattle.lists.proofs.Buffers.{over-front}
use Rattle.verdict.specs.Test.{Closeness}
use Rattle.segmentation.specs.Joining.{line_separators}
use Rattle.segmentation.specs.Finished.{LineFinished}
use Rattle.joinlog.specs.JoinLog.{record_numbers, made_on_line, line_log, same_numbers, Replayed}
use Rattle.joinlog.proofs.Always.{log-always-decided, line-log-same, line-log-length}
use Rattle.grounds.specs.Grounds.{modes_number, log_number, replay_number}
use Rattle.grounds.proofs.Served.{log-is-modes, modes-below-20, replay-turned-down, replay-same, replay-other, replay-served}
use Rattle.grounds.specs.declared.Ground.{Ground}
use Rattle.grounds.specs.declared.Ground.TheVariants.{Log}
use Rattle.kistrovu.specs.declared.LogAnswer.{LogAnswer}
use Rattle.kistrovu.specs.Answers.{modes_answer, modes_list, line_answer, line_list, log_answer, log_list, replay_answer, replay_list}
use Rattle.kistrovu.specs.Calls.{modes_given}
use Rattle.kistrovu.specs.Facts.{AcceptsOnly, written_log, LogReplays}
use Rattle.kistrovu.proofs.Modes.{ModesAccepted, accepted, is-served, is-turned-down, line-finished, list-served, list-refused}

-- ---- the log call
module _ (e : Closeness) (h : List ℕ) where
  -- what a served call knows of its histogram and its list
  pub log-accepted : (numbers : ℕ) → log_number e h numbers ≡ 0 → ModesAccepted e h (numbers / record_numbers)
  log-accepted numbers z = accepted e h (numbers / record_numbers) (sym (log-is-modes e h numbers) ∙ z)

  pub log-room : (numbers : ℕ) → log_number e h numbers ≡ 0 → record_numbers * length h ≤ numbers
  log-room numbers z = omega (arith, (log-accepted numbers z).room, div-add-mod' numbers record_numbers)

  module _ (list : List ℤ) where
    pub record Logged (r : LogAnswer) (after : List ℤ) : Type 0 where
      pub answer : r ≡ log_answer e h (length list)
      pub left : after ≡ log_list e h list

    -- the code writes it at the closeness of a setting, which is the same
    pub log-served : log_number e h (length list) ≡ 0 → (at : Closeness) → at ≡ e → (k : ℕ) (after : List ℤ) → k ≡ length (made_on_line at h) → after ≡ over (line_log at h) list
        → Logged (record { number = 0; joins = k }) after
    unfolding log_answer log_list
    log-served z at same k after count is =
        let counted = count ∙ ap (λ (x : Closeness). length (made_on_line x h)) same ∙ sym (is-served _ 0 z) in
        record {
          answer = λ i. record { number = sym z i; joins = counted i };
          left = is ∙ ap (λ (x : Closeness). over (line_log x h) list) same ∙ sym (is-served _ list z);
        }

    pub log-turned-down : (n : ℕ) → n ≡ log_number e h (length list) → ¬ (n ≡ 0) → Logged (record { number = n; joins = 0 }) list
    unfolding log_answer log_list
    log-turned-down n same d =
        let no : ¬ (log_number e h (length list) ≡ 0) = λ z. d (same ∙ z) in
        let none = sym (is-turned-down (length (made_on_line e h)) 0 no) in
        record { answer = λ i. record { number = same i; joins = none i }; left = sym (is-turned-down (over (line_log e h) list) list no) }

-- ---- the replay
module _ (e : Closeness) (h : List ℕ) (log : List ℤ) (places : ℕ) where
  other-gets-20 : modes_number e h places ≡ 0 → ¬ (log ≡ line_log e h) → replay_number e h log places ≡ 20
  other-gets-20 z d = go (same_numbers log (line_log e h)) refl
    where
      go : (t : Bool) → same_numbers log (line_log e h) ≡ t → replay_number e h log places ≡ 20
      go true q = absurd (d ((line-log-same e h log).0 q))
      go false q = replay-other e h log places z q

  own-gets-0 : modes_number e h places ≡ 0 → log ≡ line_log e h → replay_number e h log places ≡ 0
  own-gets-0 z q = replay-same e h log places z ((line-log-same e h log).1 q)

  -- no earlier ground has the number 20
  only-others-get-20 : replay_number e h log places ≡ 20 → ¬ (log ≡ line_log e h)
  only-others-get-20 n q = go (ℕ_discrete (modes_number e h places) 0)
    where
      go : Dec (modes_number e h places ≡ 0) → ⊥
      go (yes z) = omega (arith, own-gets-0 z q, n)
      go (no d) = omega (arith, modes-below-20 e h places, replay-turned-down e h log places d, n)

  pub accepts-only : AcceptsOnly e h log places
  accepts-only =
      let decided = log-always-decided e h log in
      record {
        accepted = λ z. (line-log-same e h log).0 (replay-served e h log places z).1;
        accepts = own-gets-0;
        departed = λ n. decided.departs (only-others-get-20 n);
        departs = λ z d. other-gets-20 z (decided.never d);
      }

-- ---- what is handed back and left, of a log that is the line's own or another
module _ (e : Closeness) (h : List ℕ) (log : List ℤ) (list : List ℕ) where
  pub record ReplayMade (r : Result ℕ Ground) (after : List ℕ) : Type 0 where
    pub answer : modes_given r ≡ replay_answer e h log (length list)
    pub left : after ≡ replay_list e h log list
    pub replayed : OnOk r (Replayed e h log × LineFinished e h)

  -- the code follows it at the closeness that was checked, which is the same
  pub replay-made : modes_number e h (length list) ≡ 0 → (at : Closeness) → at ≡ e → (found : Option ℕ) (after : List ℕ)
      → found ≡ cond (same_numbers log (line_log at h)) (Some (length (line_separators at h))) None
      → after ≡ cond (same_numbers log (line_log at h)) (over (line_separators at h) list) list → ReplayMade (ok_or found Log) after
  unfolding replay_answer replay_list
  replay-made z at same found after f a = go (same_numbers log (line_log e h)) refl
    where
      go : (t : Bool) → same_numbers log (line_log e h) ≡ t → ReplayMade (ok_or found Log) after
      go true q =
          let is : found ≡ Some (length (line_separators e h)) = f ∙ ap (λ (x : Closeness). cond (same_numbers log (line_log x h)) (Some (length (line_separators x h))) None) same ∙ ap (λ (t : Bool). cond t (Some (length (line_separators e h))) None) q in
          let left : after ≡ over (line_separators e h) list = a ∙ ap (λ (x : Closeness). cond (same_numbers log (line_log x h)) (over (line_separators x h) list) list) same ∙ ap (λ (t : Bool). cond t (over (line_separators e h) list) list) q in
          let listed = list-served line_separators e h list (replay_number e h log (length list)) (replay-same e h log (length list) z q) e refl _ after refl left in
          rw is (record {
            answer = listed.answer;
            left = listed.left;
            replayed = ((log-always-decided e h log).replayed ((line-log-same e h log).0 q), line-finished e h list 0 (sym z) refl);
          })
      go false q =
          let is : found ≡ None = f ∙ ap (λ (x : Closeness). cond (same_numbers log (line_log x h)) (Some (length (line_separators x h))) None) same ∙ ap (λ (t : Bool). cond t (Some (length (line_separators e h))) None) q in
          let left : after ≡ list = a ∙ ap (λ (x : Closeness). cond (same_numbers log (line_log x h)) (over (line_separators x h) list) list) same ∙ ap (λ (t : Bool). cond t (over (line_separators e h) list) list) q in
          let listed = list-refused line_separators e h list (replay_number e h log (length list)) Log (sym (replay-other e h log (length list) z q)) in
          rw is (record { answer = listed.answer; left = left ∙ listed.left; replayed = tt })

-- ---- a replay of what the log call wrote
module _ (e : Closeness) (h : List ℕ) (list : List ℤ) (z : log_number e h (length list) ≡ 0) where
  written_is : written_log e h list ≡ line_log e h
  unfolding log_answer log_list
  written_is =
      let n : record_numbers * (log_answer e h (length list)).joins ≡ length (line_log e h) = ap (λ (k : ℕ). record_numbers * k) (is-served _ 0 z) ∙ sym (line-log-length e h) in
      ap (λ (xs : List ℤ). take (record_numbers * (log_answer e h (length list)).joins) xs) (is-served _ list z) ∙ over-front (line_log e h) list _ n

  -- its grounds are those of the line call
  replay-is-modes : (places : ℕ) → replay_number e h (written_log e h list) places ≡ modes_number e h places
  replay-is-modes places = go (ℕ_discrete (modes_number e h places) 0)
    where
      go : Dec (modes_number e h places ≡ 0) → replay_number e h (written_log e h list) places ≡ modes_number e h places
      go (yes y) = (accepts-only e h (written_log e h list) places).accepts y written_is ∙ sym y
      go (no d) = replay-turned-down e h (written_log e h list) places d

pub log-replays : LogReplays
unfolding line_answer line_list replay_answer replay_list
log-replays e h list z = (
  λ places. ap (modes_answer (line_separators e h)) (replay-is-modes e h list z places),
  λ separators. ap (λ (n : ℕ). modes_list (line_separators e h) n separators) (replay-is-modes e h list z (length separators)),
)
