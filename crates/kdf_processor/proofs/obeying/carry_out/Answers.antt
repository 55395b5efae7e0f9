use Rattle.std.proofs.Common.{subst, sym, refl, [], ◌≡◌, None, map}
use Rattle.kdf_processor.specs.declared.plan.Plan.{Plan}
use Rattle.kdf_journal.specs.declared.need.Need.TheVariants.{Group}
use Rattle.kdf_processor.specs.Needs.{effect_needs, group_of}
use Rattle.kdf_processor.specs.Outcome.{CameTo}
use Rattle.kdf_processor.specs.Plan.{planned, done_plan, IsSound, HasOperands}
use Rattle.kdf_processor.specs.View.{first_pending, groups_of, order_groups}
use Rattle.kdf_processor.proofs.Pending.{none_out, none_out_behind, idle_behind, free_group}
use Rattle.kdf_processor.proofs.obeying.carry_out.Goals as goal

pub end-requires-clause-ran : goal.end-requires-clause-ran
end-requires-clause-ran g c =
    c.requires.ran

pub end-requires-clause-there : goal.end-requires-clause-there
end-requires-clause-there g c =
    subst (λ (p : Plan). HasOperands c.args.registers.now.nest p) c.in-End.is c.requires.operands

pub fetch_word-requires-clause-ran : goal.fetch_word-requires-clause-ran
fetch_word-requires-clause-ran g c =
    c.requires.ran

pub fetch_word-requires-clause-access : goal.fetch_word-requires-clause-access
fetch_word-requires-clause-access g c =
    subst (λ (p : Plan). IsSound (g.P.Port.shows c.args.port.now).claims p) c.in-Fetch.is c.requires.sound

pub fetch_word-requires-clause-room : goal.fetch_word-requires-clause-room
fetch_word-requires-clause-room g c =
    subst (λ (p : Plan). HasOperands c.args.registers.now.nest p) c.in-Fetch.is c.requires.operands

pub fetch_word-requires-clause-free : goal.fetch_word-requires-clause-free
fetch_word-requires-clause-free g c =
    let v = g.P.Port.shows c.args.port.now in
    let r = c.args.registers.now in
    let free = subst (λ (p : Plan). first_pending v (effect_needs v.mine (planned v.claims p r)) ≡ None) c.in-Fetch.is c.requires.free in
    free_group v (group_of c.in-Fetch.access.address) free

pub keep_word-requires-clause-ran : goal.keep_word-requires-clause-ran
keep_word-requires-clause-ran g c =
    c.requires.ran

pub keep_word-requires-clause-access : goal.keep_word-requires-clause-access
keep_word-requires-clause-access g c =
    subst (λ (p : Plan). IsSound (g.P.Port.shows c.args.port.now).claims p) c.in-Keep.is c.requires.sound

pub keep_word-requires-clause-there : goal.keep_word-requires-clause-there
keep_word-requires-clause-there g c =
    subst (λ (p : Plan). HasOperands c.args.registers.now.nest p) c.in-Keep.is c.requires.operands

pub keep_word-requires-clause-free : goal.keep_word-requires-clause-free
keep_word-requires-clause-free g c =
    let v = g.P.Port.shows c.args.port.now in
    let r = c.args.registers.now in
    let free = subst (λ (p : Plan). first_pending v (effect_needs v.mine (planned v.claims p r)) ≡ None) c.in-Keep.is c.requires.free in
    free_group v (group_of c.in-Keep.access.address) free

pub keep_word-requires-clause-room : goal.keep_word-requires-clause-room
keep_word-requires-clause-room g c =
    subst (λ (p : Plan). g.P.Port.room c.args.port.now (done_plan (g.P.Port.shows c.args.port.now) c.args.registers.now p).act) c.in-Keep.is c.requires.room

pub returns-in-Keep : goal.returns-in-Keep
returns-in-Keep g c =
    subst (λ (p : Plan). CameTo g.P.Port.acts (done_plan (g.P.Port.shows c.args.port.now) c.args.registers.now p) c.args.port.now c.keep_word.new.port
    c.keep_word.new.registers c.keep_word.result) (sym c.in-Keep.is) c.keep_word.ensures

pub count_orders-requires-clause-ran : goal.count_orders-requires-clause-ran
count_orders-requires-clause-ran g c =
    c.requires.ran

pub count_orders-requires-clause-there : goal.count_orders-requires-clause-there
count_orders-requires-clause-there g c =
    subst (λ (p : Plan). HasOperands c.args.registers.now.nest p) c.in-Count.is c.requires.operands

pub begin-requires-clause-ran : goal.begin-requires-clause-ran
begin-requires-clause-ran g c =
    c.requires.ran

pub begin-requires-clause-sound : goal.begin-requires-clause-sound
begin-requires-clause-sound g c =
    subst (λ (p : Plan). IsSound (g.P.Port.shows c.args.port.now).claims p) c.in-Begin.is c.requires.sound

pub begin-requires-clause-idle : goal.begin-requires-clause-idle
begin-requires-clause-idle g c =
    let v = g.P.Port.shows c.args.port.now in
    let r = c.args.registers.now in
    let b = c.in-Begin.beginning in
    let groups = order_groups b.order b.first b.last in
    let free = subst (λ (p : Plan). first_pending v (effect_needs v.mine (planned v.claims p r)) ≡ None) c.in-Begin.is c.requires.free in
    idle_behind v b.device (map Group groups) free

pub begin-requires-clause-free : goal.begin-requires-clause-free
begin-requires-clause-free g c =
    let v = g.P.Port.shows c.args.port.now in
    let r = c.args.registers.now in
    let b = c.in-Begin.beginning in
    let groups = order_groups b.order b.first b.last in
    let free = subst (λ (p : Plan). first_pending v (effect_needs v.mine (planned v.claims p r)) ≡ None) c.in-Begin.is c.requires.free in
    none_out_behind v b.device groups free

pub begin-requires-clause-room : goal.begin-requires-clause-room
begin-requires-clause-room g c =
    subst (λ (p : Plan). g.P.Port.room c.args.port.now (done_plan (g.P.Port.shows c.args.port.now) c.args.registers.now p).act) c.in-Begin.is c.requires.room

pub returns-in-Begin : goal.returns-in-Begin
returns-in-Begin g c =
    subst (λ (p : Plan). CameTo g.P.Port.acts (done_plan (g.P.Port.shows c.args.port.now) c.args.registers.now p) c.args.port.now c.begin.new.port
    c.begin.new.registers c.begin.result) (sym c.in-Begin.is) c.begin.ensures

pub examine-requires-clause-ran : goal.examine-requires-clause-ran
examine-requires-clause-ran g c =
    c.requires.ran

pub examine-requires-clause-claimed : goal.examine-requires-clause-claimed
examine-requires-clause-claimed g c =
    subst (λ (p : Plan). IsSound (g.P.Port.shows c.args.port.now).claims p) c.in-Examine.is c.requires.sound

pub examine-requires-clause-idle : goal.examine-requires-clause-idle
examine-requires-clause-idle g c =
    let v = g.P.Port.shows c.args.port.now in
    let r = c.args.registers.now in
    let free = subst (λ (p : Plan). first_pending v (effect_needs v.mine (planned v.claims p r)) ≡ None) c.in-Examine.is c.requires.free in
    idle_behind v c.in-Examine.device [] free

pub ask_busy-requires-clause-ran : goal.ask_busy-requires-clause-ran
ask_busy-requires-clause-ran g c =
    c.requires.ran

pub ask_busy-requires-clause-claimed : goal.ask_busy-requires-clause-claimed
ask_busy-requires-clause-claimed g c =
    subst (λ (p : Plan). IsSound (g.P.Port.shows c.args.port.now).claims p) c.in-AskBusy.is c.requires.sound

pub ask_busy-requires-clause-room : goal.ask_busy-requires-clause-room
ask_busy-requires-clause-room g c =
    subst (λ (p : Plan). g.P.Port.room c.args.port.now (done_plan (g.P.Port.shows c.args.port.now) c.args.registers.now p).act) c.in-AskBusy.is c.requires.room

pub returns-in-AskBusy : goal.returns-in-AskBusy
returns-in-AskBusy g c =
    subst (λ (p : Plan). CameTo g.P.Port.acts (done_plan (g.P.Port.shows c.args.port.now) c.args.registers.now p) c.args.port.now c.ask_busy.new.port
    c.ask_busy.new.registers c.ask_busy.result) (sym c.in-AskBusy.is) c.ask_busy.ensures

pub ask_area-requires-clause-ran : goal.ask_area-requires-clause-ran
ask_area-requires-clause-ran g c =
    c.requires.ran

pub ask_area-requires-clause-area : goal.ask_area-requires-clause-area
ask_area-requires-clause-area g c =
    subst (λ (p : Plan). IsSound (g.P.Port.shows c.args.port.now).claims p) c.in-AskArea.is c.requires.sound

pub ask_area-requires-clause-room : goal.ask_area-requires-clause-room
ask_area-requires-clause-room g c =
    subst (λ (p : Plan). g.P.Port.room c.args.port.now (done_plan (g.P.Port.shows c.args.port.now) c.args.registers.now p).act) c.in-AskArea.is c.requires.room

pub returns-in-AskArea : goal.returns-in-AskArea
returns-in-AskArea g c =
    subst (λ (p : Plan). CameTo g.P.Port.acts (done_plan (g.P.Port.shows c.args.port.now) c.args.registers.now p) c.args.port.now c.ask_area.new.port
    c.ask_area.new.registers c.ask_area.result) (sym c.in-AskArea.is) c.ask_area.ensures

pub ask_time-requires-clause-ran : goal.ask_time-requires-clause-ran
ask_time-requires-clause-ran g c =
    c.requires.ran

pub ask_time-requires-clause-there : goal.ask_time-requires-clause-there
ask_time-requires-clause-there g c =
    subst (λ (p : Plan). HasOperands c.args.registers.now.nest p) c.in-AskTime.is c.requires.operands

pub ask_time-requires-clause-room : goal.ask_time-requires-clause-room
ask_time-requires-clause-room g c =
    subst (λ (p : Plan). g.P.Port.room c.args.port.now (done_plan (g.P.Port.shows c.args.port.now) c.args.registers.now p).act) c.in-AskTime.is c.requires.room

pub returns-in-AskTime : goal.returns-in-AskTime
returns-in-AskTime g c =
    subst (λ (p : Plan). CameTo g.P.Port.acts (done_plan (g.P.Port.shows c.args.port.now) c.args.registers.now p) c.args.port.now c.ask_time.new.port
    c.ask_time.new.registers c.ask_time.result) (sym c.in-AskTime.is) c.ask_time.ensures

pub ask_service-requires-clause-ran : goal.ask_service-requires-clause-ran
ask_service-requires-clause-ran g c =
    c.requires.ran

pub ask_service-requires-clause-there : goal.ask_service-requires-clause-there
ask_service-requires-clause-there g c =
    subst (λ (p : Plan). HasOperands c.args.registers.now.nest p) c.in-AskService.is c.requires.operands

pub ask_service-requires-clause-served : goal.ask_service-requires-clause-served
ask_service-requires-clause-served g c =
    subst (λ (p : Plan). IsSound (g.P.Port.shows c.args.port.now).claims p) c.in-AskService.is c.requires.sound

pub ask_service-requires-clause-room : goal.ask_service-requires-clause-room
ask_service-requires-clause-room g c =
    subst (λ (p : Plan). g.P.Port.room c.args.port.now (done_plan (g.P.Port.shows c.args.port.now) c.args.registers.now p).act) c.in-AskService.is
    c.requires.room

pub returns-in-AskService : goal.returns-in-AskService
returns-in-AskService g c =
    subst (λ (p : Plan). CameTo g.P.Port.acts (done_plan (g.P.Port.shows c.args.port.now) c.args.registers.now p) c.args.port.now c.ask_service.new.port
    c.ask_service.new.registers c.ask_service.result) (sym c.in-AskService.is) c.ask_service.ensures

pub give_back-requires-clause-ran : goal.give_back-requires-clause-ran
give_back-requires-clause-ran g c =
    c.requires.ran

pub give_back-requires-clause-there : goal.give_back-requires-clause-there
give_back-requires-clause-there g c =
    subst (λ (p : Plan). HasOperands c.args.registers.now.nest p) c.in-GiveBack.is c.requires.operands

pub give_back-requires-clause-claimed : goal.give_back-requires-clause-claimed
give_back-requires-clause-claimed g c =
    subst (λ (p : Plan). IsSound (g.P.Port.shows c.args.port.now).claims p) c.in-GiveBack.is c.requires.sound

pub give_back-requires-clause-idle : goal.give_back-requires-clause-idle
give_back-requires-clause-idle g c =
    let v = g.P.Port.shows c.args.port.now in
    let r = c.args.registers.now in
    let free = subst (λ (p : Plan). first_pending v (effect_needs v.mine (planned v.claims p r)) ≡ None) c.in-GiveBack.is c.requires.free in
    idle_behind v c.in-GiveBack.device [] free

pub give_back-requires-clause-room : goal.give_back-requires-clause-room
give_back-requires-clause-room g c =
    subst (λ (p : Plan). g.P.Port.room c.args.port.now (done_plan (g.P.Port.shows c.args.port.now) c.args.registers.now p).act) c.in-GiveBack.is c.requires.room

pub returns-in-GiveBack : goal.returns-in-GiveBack
returns-in-GiveBack g c =
    subst (λ (p : Plan). CameTo g.P.Port.acts (done_plan (g.P.Port.shows c.args.port.now) c.args.registers.now p) c.args.port.now c.give_back.new.port
    c.give_back.new.registers c.give_back.result) (sym c.in-GiveBack.is) c.give_back.ensures

pub spool-requires-clause-ran : goal.spool-requires-clause-ran
spool-requires-clause-ran g c =
    c.requires.ran

pub spool-requires-clause-there : goal.spool-requires-clause-there
spool-requires-clause-there g c =
    subst (λ (p : Plan). HasOperands c.args.registers.now.nest p) c.in-Spool.is c.requires.operands

pub spool-requires-clause-stream : goal.spool-requires-clause-stream
spool-requires-clause-stream g c =
    let sound = subst (λ (p : Plan). IsSound (g.P.Port.shows c.args.port.now).claims p) c.in-Spool.is c.requires.sound in
    sound.0

pub spool-requires-clause-area : goal.spool-requires-clause-area
spool-requires-clause-area g c =
    let sound = subst (λ (p : Plan). IsSound (g.P.Port.shows c.args.port.now).claims p) c.in-Spool.is c.requires.sound in
    sound.1

pub spool-requires-clause-free : goal.spool-requires-clause-free
spool-requires-clause-free g c =
    let v = g.P.Port.shows c.args.port.now in
    let r = c.args.registers.now in
    let free = subst (λ (p : Plan). first_pending v (effect_needs v.mine (planned v.claims p r)) ≡ None) c.in-Spool.is c.requires.free in
    none_out v (groups_of c.in-Spool.first c.in-Spool.last) free

pub spool-requires-clause-room : goal.spool-requires-clause-room
spool-requires-clause-room g c =
    subst (λ (p : Plan). g.P.Port.room c.args.port.now (done_plan (g.P.Port.shows c.args.port.now) c.args.registers.now p).act) c.in-Spool.is c.requires.room

pub returns-in-Spool : goal.returns-in-Spool
returns-in-Spool g c =
    subst (λ (p : Plan). CameTo g.P.Port.acts (done_plan (g.P.Port.shows c.args.port.now) c.args.registers.now p) c.args.port.now c.spool.new.port
    c.spool.new.registers c.spool.result) (sym c.in-Spool.is) c.spool.ensures

pub returns-in-Fail : goal.returns-in-Fail
returns-in-Fail g c =
    let port = c.args.port.now in
    let r = c.args.registers.now in
    subst (λ (p : Plan). CameTo g.P.Port.acts (done_plan (g.P.Port.shows port) r p) port port c.fail.new.registers c.fail.result) (sym c.in-Fail.is)
    (record { step = c.fail.ensures.step; registers = c.fail.ensures.registers; acted = g.met.P.Port.stays port; unchanged = λ _. refl })

pub returns-in-End : goal.returns-in-End
returns-in-End g c =
    let port = c.args.port.now in
    let r = c.args.registers.now in
    subst (λ (p : Plan). CameTo g.P.Port.acts (done_plan (g.P.Port.shows port) r p) port port c.end.new.registers c.end.result) (sym c.in-End.is)
    (record { step = c.end.ensures.step; registers = c.end.ensures.registers; acted = g.met.P.Port.stays port; unchanged = λ _. refl })

pub returns-in-Fetch : goal.returns-in-Fetch
returns-in-Fetch g c =
    let port = c.args.port.now in
    let r = c.args.registers.now in
    subst (λ (p : Plan). CameTo g.P.Port.acts (done_plan (g.P.Port.shows port) r p) port port c.fetch_word.new.registers c.fetch_word.result)
    (sym c.in-Fetch.is)
    (record { step = c.fetch_word.ensures.step; registers = c.fetch_word.ensures.registers; acted = g.met.P.Port.stays port; unchanged = λ _. refl })

pub returns-in-Count : goal.returns-in-Count
returns-in-Count g c =
    let port = c.args.port.now in
    let r = c.args.registers.now in
    subst (λ (p : Plan). CameTo g.P.Port.acts (done_plan (g.P.Port.shows port) r p) port port c.count_orders.new.registers c.count_orders.result)
    (sym c.in-Count.is)
    (record { step = c.count_orders.ensures.step; registers = c.count_orders.ensures.registers; acted = g.met.P.Port.stays port; unchanged = λ _. refl })

pub returns-in-Examine : goal.returns-in-Examine
returns-in-Examine g c =
    let port = c.args.port.now in
    let r = c.args.registers.now in
    subst (λ (p : Plan). CameTo g.P.Port.acts (done_plan (g.P.Port.shows port) r p) port port c.examine.new.registers c.examine.result) (sym c.in-Examine.is)
    (record { step = c.examine.ensures.step; registers = c.examine.ensures.registers; acted = g.met.P.Port.stays port; unchanged = λ _. refl })

pub returns-in-Await : goal.returns-in-Await
returns-in-Await g c =
    let port = c.args.port.now in
    let r = c.args.registers.now in
    subst (λ (p : Plan). CameTo g.P.Port.acts (done_plan (g.P.Port.shows port) r p) port port c.pass.new.registers c.pass.result) (sym c.in-Await.is)
    (record { step = c.pass.ensures.step; registers = c.pass.ensures.registers; acted = g.met.P.Port.stays port; unchanged = λ _. refl })
