mod FlowsTold
mod Steps
