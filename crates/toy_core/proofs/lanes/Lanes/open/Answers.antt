use Rattle.toy_core.proofs.lanes.Lanes.open.Goals as goal

pub returns-in-Shell : goal.returns-in-Shell
returns-in-Shell c = rw c.in-Shell.is (λ ls a. record { shell = (rw c.in-Shell.is at c.open.ensures) _ a.shell; control = a.control; iopub = a.iopub; heart = a.heart })

pub returns-in-Control : goal.returns-in-Control
returns-in-Control c = rw c.in-Control.is (λ ls a. record { shell = a.shell; control = (rw c.in-Control.is at c.open-in-Control.ensures) _ a.control; iopub = a.iopub; heart = a.heart })

pub returns-in-Iopub : goal.returns-in-Iopub
returns-in-Iopub c = rw c.in-Iopub.is (λ ls a. record { shell = a.shell; control = a.control; iopub = (rw c.in-Iopub.is at c.open-in-Iopub.ensures) _ a.iopub; heart = a.heart })

pub returns-in-Heart : goal.returns-in-Heart
returns-in-Heart c = rw c.in-Heart.is (λ ls a. record { shell = a.shell; control = a.control; iopub = a.iopub; heart = (rw c.in-Heart.is at c.open-in-Heart.ensures) _ a.heart })
