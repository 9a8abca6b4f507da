use Rattle.toy_core.proofs.lanes.Lanes.hand.Goals as goal

pub returns-in-Shell : goal.returns-in-Shell
returns-in-Shell c = rw c.in-Shell.is (λ ls a. record { shell = c.hand.ensures _ _ a.shell; control = a.control; iopub = a.iopub; heart = a.heart })

pub returns-in-Control : goal.returns-in-Control
returns-in-Control c = rw c.in-Control.is (λ ls a. record { shell = a.shell; control = c.hand-in-Control.ensures _ _ a.control; iopub = a.iopub; heart = a.heart })

pub returns-in-Iopub : goal.returns-in-Iopub
returns-in-Iopub c = rw c.in-Iopub.is (λ ls a. record { shell = a.shell; control = a.control; iopub = c.hand-in-Iopub.ensures _ _ a.iopub; heart = a.heart })

pub returns-in-Heart : goal.returns-in-Heart
returns-in-Heart c = rw c.in-Heart.is (λ ls a. record { shell = a.shell; control = a.control; iopub = a.iopub; heart = c.hand-in-Heart.ensures _ _ a.heart })
